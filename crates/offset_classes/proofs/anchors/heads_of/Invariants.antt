-- The table has the heads of the anchors before.
use Rattle.offset_classes.specs.Anchors.{AreHeads}
use Rattle.offset_classes.proofs.anchors.heads_of.Given as goal

abbrev pub invariant-loop-anchor : goal.invariant-loop-anchor
invariant-loop-anchor l = AreHeads l.anchor l.seats l.heads.items
