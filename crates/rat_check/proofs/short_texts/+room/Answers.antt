-- The text of an expression takes what its parts take, and its signs.
use Rattle.std.proofs.Common.{arith, length, [], ◌≡◌, sym, ap, ◌∙◌}
use Rattle.f66_tree.specs.Syntax.{Group, Item, Pair}
use Rattle.f66_tree.specs.Views.{formula_of, formulas_of}
use Rattle.f66_tree.proofs.Rows.{item_seen}
use Rattle.stmt_text.specs.Texts.{formula_text}
use Rattle.rat_check.specs.LongTexts.{texts_size}
use Rattle.rat_check.proofs.ShortTexts.{group_size, pair_size, item_size, left_more, number_left}
use Rattle.rat_check.proofs.short_texts.+room.Goals as goal

pub room_behind-returns-in-Int : goal.room_behind-returns-in-Int
room_behind-returns-in-Int t c = number_left c.checked_sub.result c.args.e.now c.in-Int.field-0 c.args.room c.in-Int.is c.checked_sub.ensures

pub room_behind-returns-in-Item : goal.room_behind-returns-in-Item
room_behind-returns-in-Item t c =
    let pair = c.deref.result.now in
    let list = c.deref-in-Item.result.now in
    let same = item_seen (λ f. length (formula_text f [])) c.args.e.now c.in-Item.item pair list c.in-Item.is c.deref.ensures c.deref-in-Item.ensures.value in
    left_more c.room_behind_item.result (length (formula_text (Item pair.0 (formulas_of list)) [])) _ c.args.room c.args.room c.room_behind_item.ensures (omega (arith, same))

pub room_behind-returns-in_ok-checked_sub-in-Group : goal.room_behind-returns-in_ok-checked_sub-in-Group
room_behind-returns-in_ok-checked_sub-in-Group t c =
    let a = formula_of c.deref-in-Group.result.now in
    let is : formula_of c.args.e.now ≡ Group a = ap formula_of c.in-Group.is ∙ ap (λ x. Group (formula_of x)) (sym c.deref-in-Group.ensures) in
    let size = ap (λ f. length (formula_text f [])) is in
    left_more c.room_behind.result (length (formula_text a [])) _ c.in_ok-checked_sub-in-Group.field-0 c.args.room c.room_behind.ensures (omega (arith, size, group_size a, c.in_ok-checked_sub-in-Group.ensures.0, c.in_ok-checked_sub-in-Group.ensures.1))

pub room_behind-returns-in_ok-room-in-Pair : goal.room_behind-returns-in_ok-room-in-Pair
room_behind-returns-in_ok-room-in-Pair t c =
    let pair = c.deref-in-Pair.result.now in
    let op = c.in-Pair.field-0 in
    let a = formula_of pair.0 in
    let b = formula_of pair.1 in
    let is : formula_of c.args.e.now ≡ Pair op a b = ap formula_of c.in-Pair.is ∙ ap (λ v. Pair op (formula_of v.0) (formula_of v.1)) (sym c.deref-in-Pair.ensures) in
    let size = ap (λ f. length (formula_text f [])) is in
    left_more c.room_behind-in-Pair-2.result (length (formula_text b [])) _ c.in_ok-room-in-Pair.room c.args.room c.room_behind-in-Pair-2.ensures
    (omega (arith, size, pair_size op a b, c.in_ok-room-in-Pair.ensures, c.in_ok-checked_sub-in-Pair.ensures.0, c.in_ok-checked_sub-in-Pair.ensures.1))

pub room_behind_item-returns : goal.room_behind_item-returns
room_behind_item-returns t c =
    let es = formulas_of c.args.list.now in
    left_more c.room_behind_list.result (texts_size es) _ c.in_ok-room-2.room c.args.room c.room_behind_list.ensures
    (omega (arith, item_size c.args.name.now es, ap length c.as_bytes.ensures, c.in_ok-room.ensures.0, c.in_ok-room.ensures.1, c.in_ok-room-2.ensures.0, c.in_ok-room-2.ensures.1))
