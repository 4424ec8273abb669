-- The items before are made.
use Rattle.std.proofs.Common.{drop, map}
use Rattle.efl_tree.specs.Views.{write_item_of}
use Rattle.efl_typed.specs.Typing.{Context}
use Rattle.efl_typed.specs.Typing as typing
use Rattle.efl_typed_tree.specs.Views as views
use Rattle.efl_built.specs.Unbuilt.{unbuilt_written}
use Rattle.efl_bindings.specs.Sites.{IsSite}
use Rattle.efl_typing.proofs.ListLemmas.{ItemsLeft}
use Rattle.efl_typing.proofs.items.typed_write_items.Given as goal

abbrev pub invariant-loop-item : goal.invariant-loop-item
invariant-loop-item l = (c : Context) → IsSite c l.site → ItemsLeft unbuilt_written views.write_item_of (typing.written c) (map write_item_of l.list) (map write_item_of (drop l.item-index l.list)) l.items.items
