-- One edge more spreads its mark.
use Rattle.std.proofs.Common.{◌≡◌, ◌∙◌, ◌&&◌, not, sym, subst}
use Rattle.call_cycles.specs.Cycles.{AreWithin}
use Rattle.call_cycles.proofs.MarkLemmas.{pass_step}
use Rattle.call_cycles.proofs.marks.spread.Goals as goal
use Rattle.call_cycles.proofs.marks.spread.Goals.{then-quiet, else-quiet}

pub loop-edge-preserved : goal.loop-edge-preserved
loop-edge-preserved c =
    let next : c.if-quiet.quiet ≡ (c.loop-edge.quiet && not c.spread_one-made.result) =
    elim c.if-quiet.branch [ then-quiet w ↦ rw w.if-quiet.true w.quiet-is | else-quiet w ↦ rw w.if-quiet.false (w.quiet-is ∙ w.if-quiet.false) ] in
    pass_step c.args.edges.now c.args.marks.now c.loop-edge.marks c.spread_one-made.new.marks c.loop-edge.quiet c.spread_one-made.result c.if-quiet.quiet c.loop-edge.edge-index
    c.loop-edge-test.true (subst (λ n. AreWithin n c.args.edges.now) (sym c.loop-edge.auto.marks) c.requires) c.loop-edge.invariant c.spread_one-made.ensures next
