-- The labels of the parts before are added.
use Rattle.std.proofs.Common.{◌≡◌, [], drop}
use Rattle.rat_check.specs.PartViews.{parts_seen}
use Rattle.rat_check.specs.Survey.{own_labels}
use Rattle.rat_check.proofs.unit_check.labels_in.Given as goal

abbrev pub invariant-loop-part : goal.invariant-loop-part
invariant-loop-part l = own_labels (parts_seen (drop l.part-index l.parts)) l.labels ≡ own_labels (parts_seen l.parts) []
