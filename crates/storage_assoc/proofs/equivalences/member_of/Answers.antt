-- The place of a member.
use Rattle.std.proofs.Common.{ℕ, List, Option, map, refl, sym, option_map, rules, w64}
use Rattle.std.proofs.lemmas.Int.{to_z-of_z}
use Rattle.std.specs.HashMap.{get_by}
use Rattle.std.specs.Str.{bytes_eq}
use Rattle.f66_tree.specs.Syntax as forms
use Rattle.f66_tree.specs.Views.{chained, formula_of, par_of}
use Rattle.f66_tree.proofs.Rows.{item_seen}
use Rattle.storage_assoc.proofs.GroupLemmas.{element_more}
use Rattle.storage_assoc.proofs.equivalences.member_of.Goals as goal

pub returns-in_ok-at-in-Item : goal.returns-in_ok-at-in-Item
returns-in_ok-at-in-Item c =
    let find : List ℕ → Option ℕ = λ q. get_by (λ k. bytes_eq q k.now) c.args.rows.now in
    let dims : List ℕ → Option (List forms.Par) = λ q. option_map (λ ps. map par_of ps.now) (get_by (λ k. bytes_eq q k.now) c.args.dims.now) in
    let x = c.deref.result.now.0 in
    let es = chained (map formula_of c.deref.result.now.1.items) in
    let at = c.in_ok-at-in-Item.at in
    element_more find dims (formula_of c.args.e.now) x es c.row_of-row-in-Item.result at _ (sym (item_seen (λ f. f) c.args.e.now c.in-Item.item c.deref.result.now _ c.in-Item.is c.deref.ensures refl)) c.row_of-row-in-Item.ensures
    (rw (c.dims_of.ensures, c.deref-in-Item.ensures.value) at c.in_ok-at-in-Item.ensures) (to_z-of_z w64 at (search rules))
