-- What stands before has given its names.
use Rattle.std.proofs.Common.{◌≡◌, ◌++◌, drop, map}
use Rattle.std.specs.List.{flat_map}
use Rattle.efl_tree.specs.Views.{write_item_of}
use Rattle.efl_scope.specs.Uses.{uses_written}
use Rattle.efl_storage.specs.Named.{named_in, texts_of}
use Rattle.efl_storage.proofs.named.name_all_written.Given as goal

abbrev pub invariant-loop-item : goal.invariant-loop-item
invariant-loop-item l =
    texts_of l.names.items ++ named_in (flat_map uses_written (map write_item_of (drop l.item-index l.list))) ≡ texts_of l.initial.names.items ++ named_in (flat_map uses_written (map write_item_of l.list))
