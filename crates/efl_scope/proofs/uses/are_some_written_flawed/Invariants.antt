-- Those before have no flaw.
use Rattle.std.proofs.Common.{◌≡◌, drop, map}
use Rattle.std.specs.List.{list_any, flat_map}
use Rattle.efl_tree.specs.Views.{write_item_of}
use Rattle.efl_scope.specs.Uses.{uses_written}
use Rattle.efl_scope.specs.BlockViews.{known_of}
use Rattle.efl_scope.specs.UseViews.{is_flawed}
use Rattle.efl_scope.proofs.uses.are_some_written_flawed.Given as goal

abbrev pub invariant-loop-item : goal.invariant-loop-item
invariant-loop-item l =
    list_any (is_flawed l.flaw (known_of l.known)) (flat_map uses_written (map write_item_of (drop l.item-index l.list)))
    ≡ list_any (is_flawed l.flaw (known_of l.known)) (flat_map uses_written (map write_item_of l.list))
