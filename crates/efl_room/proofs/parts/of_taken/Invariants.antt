-- So far the items before are counted.
use Rattle.std.proofs.Common.{◌≡◌, drop}
use Rattle.efl_typed_tree.specs.Views.{read_items_of}
use Rattle.efl_lowered.specs.Needs.{of_taken}
use Rattle.efl_room.proofs.parts.of_taken.Given as goal

abbrev pub invariant-loop-item : goal.invariant-loop-item
invariant-loop-item l = of_taken (read_items_of (drop l.item-index l.items)) l.count ≡ of_taken (read_items_of l.items) l.number
