-- What stands before has given its calls.
use Rattle.std.proofs.Common.{◌≡◌, drop, map}
use Rattle.std.specs.List.{flat_map}
use Rattle.efl_tree.specs.Views.{write_item_of}
use Rattle.efl_scope.specs.Uses.{uses_written}
use Rattle.efl_whole.specs.Calls.{using_all}
use Rattle.efl_whole.specs.CallViews.{calls_of, site_of}
use Rattle.efl_whole.proofs.expressions.add_written.Given as goal

abbrev pub invariant-loop-item : goal.invariant-loop-item
invariant-loop-item l =
    using_all (site_of l.site) l.place (flat_map uses_written (map write_item_of (drop l.item-index l.list))) (calls_of l.calls)
    ≡ using_all (site_of l.site) l.place (flat_map uses_written (map write_item_of l.list)) (calls_of l.initial.calls)
