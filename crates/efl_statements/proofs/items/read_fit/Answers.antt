-- Item by item.
use Rattle.std.proofs.Common.{◌+◌, drop, map, refl, sym, ap, ◌∙◌}
use Rattle.std.proofs.lemmas.List.{drop_all}
use Rattle.efl_tree.specs.Views.{read_item_of}
use Rattle.efl_scope.proofs.TreeLemmas.{drop_next}
use Rattle.efl_types.specs.Statements.{read_width}
use Rattle.efl_statements.specs.Widths.{room_after, fit_into}
use Rattle.efl_statements.proofs.WidthLemmas.{fit_next, fit_end}
use Rattle.efl_statements.proofs.items.read_fit.Goals as goal

pub loop-item-init : goal.loop-item-init
loop-item-init c = refl

pub loop-item-preserved : goal.loop-item-preserved
loop-item-preserved c =
    let l = c.loop-item in
    let list = c.args.list.now in
    let x = c.item-item.result in
    let rest = map read_item_of (drop (l.item-index + 1) list) in
    ap (λ o. fit_into read_width o rest) (c.narrowed-room.ensures ∙ ap (room_after l.room) c.read_width.ensures)
    ∙ fit_next read_width l.room (read_item_of x) rest
    ∙ ap (λ xs. fit_into read_width l.room (map read_item_of xs)) (sym (drop_next list l.item-index x c.loop-item-test.true c.item-item.is))
    ∙ l.invariant

pub returns : goal.returns
returns c =
    let l = c.loop-item in
    c.is_some.ensures ∙ fit_end read_width l.room
    ∙ ap (λ xs. fit_into read_width l.room (map read_item_of xs)) (sym (drop_all l.item-index c.args.list.now c.loop-item-test.false)) ∙ l.invariant
