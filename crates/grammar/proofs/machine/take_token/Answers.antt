-- No turn before the first, and each turn is a step.
use Rattle.std.proofs.Common.{subst}
use Rattle.grammar.specs.Stack.{items, Stepped, StaysLinked}
use Rattle.grammar.proofs.RunLemmas.{turns_none, turns_then, turns_take, turns_refuse}
use Rattle.grammar.proofs.machine.take_token.Goals as goal

pub loop-init : goal.loop-init
loop-init g c = record {
  same = turns_none g.L.Language.grammar g.L.Language.certificate.predict g.L.Language.meter _ _ c.args.token.now;
  linked = λ h. h;
}

pub returns-in-Taken-clause-takes : goal.returns-in-Taken-clause-takes
returns-in-Taken-clause-takes g c =
    let view = g.L.Language.view in
    turns_take g.L.Language.grammar g.L.Language.certificate.predict g.L.Language.meter _ (items view c.loop.stack) _ _ c.loop.meters _ c.args.token.now c.loop.invariant.same
    (subst (λ s. Stepped g.L.Language.grammar g.L.Language.certificate.predict g.L.Language.meter s (items view c.loop.stack) c.loop.meters c.args.token.now (items view c.step_at.new.stack) c.step_at.new.meters)
    c.in-Taken.is c.in_ok-step_at.ensures.steps)

pub returns-in-Stuck-clause-takes : goal.returns-in-Stuck-clause-takes
returns-in-Stuck-clause-takes g c =
    let view = g.L.Language.view in
    turns_refuse g.L.Language.grammar g.L.Language.certificate.predict g.L.Language.meter _ (items view c.loop.stack) _ c.loop.meters c.args.token.now c.loop.invariant.same
    (subst (λ s. Stepped g.L.Language.grammar g.L.Language.certificate.predict g.L.Language.meter s (items view c.loop.stack) c.loop.meters c.args.token.now (items view c.step_at.new.stack) c.step_at.new.meters)
    c.in-Stuck.is c.in_ok-step_at.ensures.steps)

pub loop-preserved : goal.loop-preserved
loop-preserved g c =
    let view = g.L.Language.view in
    record {
      same = turns_then g.L.Language.grammar g.L.Language.certificate.predict g.L.Language.meter _ (items view c.loop.stack) _ _ c.loop.meters _ c.args.token.now c.loop.invariant.same
          (subst (λ s. Stepped g.L.Language.grammar g.L.Language.certificate.predict g.L.Language.meter s (items view c.loop.stack) c.loop.meters c.args.token.now (items view c.step_at.new.stack) c.step_at.new.meters)
          c.in-Again.is c.in_ok-step_at.ensures.steps);
      linked = λ h. subst (λ s. StaysLinked g.L.Language.grammar s (items view c.loop.stack) (items view c.step_at.new.stack)) c.in-Again.is c.in_ok-step_at.ensures.linked (c.loop.invariant.linked h);
    }
