-- Why `drop_ended` keeps its clauses.
use Rattle.std.proofs.Common.{◌∙◌, sym}
use Rattle.f66_flow.proofs.StackLemmas.{dropped}
use Rattle.f66_flow.proofs.ranges.drop_ended.Goals as goal

pub loop-stack-preserved : goal.loop-stack-preserved
loop-stack-preserved c = λ q le.
    dropped c.args.place q c.loop-stack.stack.items c.pop.new.self.items c.pop.result le c.pop.ensures.items (sym c.loop-stack-test.ensures)
    ∙ c.loop-stack.invariant q le
