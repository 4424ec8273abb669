-- The stack comes from the first one without a token; each turn takes an item away.
use Rattle.std.proofs.Common.{length}
use Rattle.grammar.specs.Stack.{items}
use Rattle.grammar.proofs.RunLemmas.{ComesTo}
use Rattle.grammar.proofs.machine.finish.Given as goal

abbrev pub invariant-loop-alloc : goal.invariant-loop-alloc
invariant-loop-alloc g l = ComesTo g.L.Language.grammar g.L.Language.certificate.predict (items g.L.Language.view l.fn.stack) (items g.L.Language.view l.stack)

abbrev pub decreases-loop-alloc : goal.decreases-loop-alloc
decreases-loop-alloc g l = length (items g.L.Language.view l.stack)
