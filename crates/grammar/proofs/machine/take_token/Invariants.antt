-- The turns so far lead from the first stack to this one, which stays linked.
use Rattle.grammar.specs.Descent.{Turns, Linked}
use Rattle.grammar.specs.Stack.{items, distance}
use Rattle.grammar.proofs.machine.take_token.Given as goal

abbrev pub invariant-loop : goal.invariant-loop
invariant-loop g l = record {
  same : Turns g.L.Language.grammar g.L.Language.certificate.predict g.L.Language.meter
      (items g.L.Language.view l.fn.stack) l.fn.meters l.token (items g.L.Language.view l.stack) l.meters;
  linked : Linked g.L.Language.grammar (items g.L.Language.view l.fn.stack) → Linked g.L.Language.grammar (items g.L.Language.view l.stack);
}

abbrev pub decreases-loop : goal.decreases-loop
decreases-loop g l = distance g.L.Language.grammar g.L.Language.certificate (items g.L.Language.view l.stack)
