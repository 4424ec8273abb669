-- The items before are made.
use Rattle.std.proofs.Common.{drop, map}
use Rattle.efl_tree.specs.Views.{read_item_of}
use Rattle.efl_typed.specs.Typing.{Context}
use Rattle.efl_typed.specs.Typing as typing
use Rattle.efl_typed_tree.specs.Views as views
use Rattle.efl_built.specs.Unbuilt.{unbuilt_read}
use Rattle.efl_bindings.specs.Sites.{IsSite}
use Rattle.efl_typing.proofs.ListLemmas.{ItemsLeft}
use Rattle.efl_typing.proofs.items.typed_read_items.Given as goal

abbrev pub invariant-loop-item : goal.invariant-loop-item
invariant-loop-item l = (c : Context) → IsSite c l.site → ItemsLeft unbuilt_read views.read_item_of (typing.taken c) (map read_item_of l.list) (map read_item_of (drop l.item-index l.list)) l.items.items
