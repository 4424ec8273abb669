-- Item by item.
use Rattle.std.proofs.Common.{◌+◌, map, drop, sym, subst}
use Rattle.std.proofs.lemmas.List.{drop_all}
use Rattle.efl_tree.specs.Views.{read_item_of}
use Rattle.efl_scope.proofs.TreeLemmas.{drop_next}
use Rattle.efl_typed.specs.Typing as typing
use Rattle.efl_typed_tree.specs.Views as views
use Rattle.efl_built.specs.Unbuilt.{unbuilt_read}
use Rattle.efl_typing.proofs.ListLemmas.{ItemsLeft, items_begun, item_passed, items_ended}
use Rattle.efl_typing.proofs.items.typed_read_items.Goals as goal

pub loop-item-init : goal.loop-item-init
loop-item-init c = λ a here.
    let all = map read_item_of c.args.list.now in
    subst (ItemsLeft unbuilt_read views.read_item_of (typing.taken a) all all) (sym c.new-items.ensures.items) (items_begun unbuilt_read views.read_item_of (typing.taken a) all)

pub loop-item-preserved : goal.loop-item-preserved
loop-item-preserved c = λ a here.
    let l = c.loop-item in
    let list = c.args.list.now in
    let x = c.item-item.result in
    let rest = map read_item_of (drop (l.item-index + 1) list) in
    let all = map read_item_of list in
    subst (ItemsLeft unbuilt_read views.read_item_of (typing.taken a) all rest) (sym c.in_ok-push.ensures.items)
    (item_passed unbuilt_read views.read_item_of (typing.taken a) all rest l.items.items (read_item_of x) c.typed_read_item.result
    (subst (λ xs. ItemsLeft unbuilt_read views.read_item_of (typing.taken a) all (map read_item_of xs) l.items.items) (drop_next list l.item-index x c.loop-item-test.true c.item-item.is) (l.invariant a here))
    (c.typed_read_item.ensures a here))

pub returns : goal.returns
returns c = λ a here.
    let l = c.loop-item in
    let list = c.args.list.now in
    items_ended unbuilt_read views.read_item_of (typing.taken a) (map read_item_of list) l.items.items
    (subst (λ xs. ItemsLeft unbuilt_read views.read_item_of (typing.taken a) (map read_item_of list) (map read_item_of xs) l.items.items) (drop_all l.item-index list c.loop-item-test.false) (l.invariant a here))
