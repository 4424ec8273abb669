-- The parts that are left take an item where the field does.
use Rattle.std.proofs.Common.{◌≡◌, drop}
use Rattle.f66_tree.specs.Fields.{has_item, steps}
use Rattle.format_io.specs.OneField.{one}
use Rattle.format_io.proofs.Parts.{list_has}
use Rattle.format_io.proofs.layout.+takes_item.Given as goal

abbrev pub invariant-loop-part : goal.invariant-loop-part
invariant-loop-part l = list_has (drop l.part-index l.part-items) ≡ has_item (steps (one l.field))
