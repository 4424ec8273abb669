-- One edge more falls, or its beginning is lifted.
use Rattle.std.proofs.Common.{◌≡◌, ◌&&◌, not, ◌∙◌}
use Rattle.code_layout.proofs.RankLemmas.{pass_step}
use Rattle.code_layout.proofs.ranks.lift.Goals as goal
use Rattle.code_layout.proofs.ranks.lift.Goals.{then-quiet, else-quiet}

pub loop-edge-preserved : goal.loop-edge-preserved
loop-edge-preserved c =
    let next : c.if-quiet.quiet ≡ (c.loop-edge.quiet && not c.lift_one-lifted.result) =
    elim c.if-quiet.branch [ then-quiet w ↦ rw w.if-quiet.true w.quiet-is | else-quiet w ↦ rw w.if-quiet.false (w.quiet-is ∙ w.if-quiet.false) ] in
    pass_step c.args.edges.now c.args.ranks.now c.loop-edge.ranks c.lift_one-lifted.new.ranks c.loop-edge.quiet c.lift_one-lifted.result c.if-quiet.quiet c.loop-edge.edge-index
    c.loop-edge-test.true c.requires.within c.loop-edge.invariant c.lift_one-lifted.ensures next
