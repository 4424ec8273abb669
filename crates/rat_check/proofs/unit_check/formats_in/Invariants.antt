-- The formats before are added.
use Rattle.std.proofs.Common.{◌≡◌, drop}
use Rattle.rat_check.specs.Parts.{no_label}
use Rattle.rat_check.specs.FirstFault.{with_formats}
use Rattle.rat_check.specs.PartViews.{parts_seen}
use Rattle.rat_check.specs.Survey.{is_among}
use Rattle.rat_check.proofs.unit_check.formats_in.Given as goal

abbrev pub invariant-loop-part : goal.invariant-loop-part
invariant-loop-part l = with_formats (parts_seen (drop l.part-index l.parts)) (is_among l.formats) ≡ with_formats (parts_seen l.parts) no_label
