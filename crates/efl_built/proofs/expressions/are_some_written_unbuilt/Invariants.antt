-- Those before are built.
use Rattle.std.proofs.Common.{◌≡◌, drop, map}
use Rattle.std.specs.List.{list_any}
use Rattle.efl_tree.specs.Views.{write_item_of}
use Rattle.efl_built.specs.Unbuilt.{unbuilt_written}
use Rattle.efl_built.proofs.expressions.are_some_written_unbuilt.Given as goal

abbrev pub invariant-loop-item : goal.invariant-loop-item
invariant-loop-item l = list_any unbuilt_written (map write_item_of (drop l.item-index l.list)) ≡ list_any unbuilt_written (map write_item_of l.list)
