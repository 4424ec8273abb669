-- Why `innermost_ranges` keeps its clauses.
use Rattle.std.proofs.Common.{arith, ◌∙◌, ◌≤◌}
use Rattle.std.proofs.lemmas.Grind.{common_steps}
use Rattle.f66_flow.specs.Innermost.{innermost}
use Rattle.f66_flow.proofs.StackLemmas.{stack_step, found_step, top_is}
use Rattle.f66_flow.proofs.ranges.innermost_ranges.Goals as goal

pub loop-place-preserved : goal.loop-place-preserved
loop-place-preserved c = (
  λ q le. let here : c.loop-place.place ≤ q = omega arith in
      stack_step q c.loop-place.place c.args.ends.now c.drop_ended.new.stack.items c.push-in-loop-place.new.self.items c.loop-place-test.true
      c.in_ok-push-2.ensures.items (c.drop_ended.ensures.kept q here ∙ c.loop-place.invariant.0 q here),
  grind (arith, common_steps),
  found_step (λ n. innermost c.args.ends.now n) c.loop-place.place c.loop-place.around.items c.push.new.self.items c.beginning_on_top.result
      c.loop-place.invariant.1 c.in_ok-push.ensures.items c.loop-place.invariant.2
      (c.beginning_on_top.ensures ∙ top_is c.loop-place.place c.drop_ended.new.stack.items c.drop_ended.ensures.top
      ∙ c.drop_ended.ensures.kept c.loop-place.place (omega arith) ∙ c.loop-place.invariant.0 c.loop-place.place (omega arith)),
)
