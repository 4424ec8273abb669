-- So far the items before are counted.
use Rattle.std.proofs.Common.{◌≡◌, drop}
use Rattle.efl_typed_tree.specs.Views.{write_items_of}
use Rattle.efl_lowered.specs.Needs.{of_items}
use Rattle.efl_room.proofs.parts.of_items.Given as goal

abbrev pub invariant-loop-item : goal.invariant-loop-item
invariant-loop-item l = of_items (write_items_of (drop l.item-index l.items)) l.count ≡ of_items (write_items_of l.items) l.number
