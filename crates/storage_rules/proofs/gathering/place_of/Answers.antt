-- An element stands as far from the first place as its subscripts say.
use Rattle.std.proofs.Common.{◌≡◌, ◌∙◌, Some, ap, map, refl, unsigned_abs, rules, w64}
use Rattle.std.proofs.lemmas.Int.{to_z-of_z}
use Rattle.std.specs.Prelude.{FitsSigned}
use Rattle.f66_tree.specs.Units.{sizes_of}
use Rattle.f66_tree.specs.Views.{chained, formula_of}
use Rattle.f66_tree.proofs.Rows.{item_seen}
use Rattle.f66_mentions.specs.UnitViews.{context_in}
use Rattle.f66_program.specs.Association.{shift}
use Rattle.storage_rules.specs.Presets.{place_seen}
use Rattle.storage_rules.proofs.gathering.place_of.Goals as goal

pub returns-in_ok-at-in-Item : goal.returns-in_ok-at-in-Item
returns-in_ok-at-in-Item c =
    let k = context_in c.args.names.now in
    let x = c.deref.result.now.0 in
    let items = c.deref.result.now.1.items in
    let at = c.in_ok-at-in-Item.at in
    let fits : FitsSigned w64 at = search rules in
    let far : at ≡ shift 1 (sizes_of x k.notes) (chained (map formula_of items)) =
    c.in_ok-at-in-Item.ensures 1 refl
    ∙ ap (λ ps. shift 1 ps (chained (map formula_of c.deref-in-Item.result.now))) (c.sizes_of.ensures ∙ ap (λ q. sizes_of q k.notes) c.as_bytes.ensures)
    ∙ ap (λ xs. shift 1 (sizes_of x k.notes) (chained (map formula_of xs))) c.deref-in-Item.ensures.value in
    let is = item_seen (place_seen k) c.args.place.now c.in-Item.item c.deref.result.now items c.in-Item.is c.deref.ensures refl in
    let abs : c.unsigned_abs.result ≡ unsigned_abs (shift 1 (sizes_of x k.notes) (chained (map formula_of items))) = c.unsigned_abs.ensures.value ∙ ap unsigned_abs (to_z-of_z w64 at fits ∙ far) in
    ap (λ n. Some (x, n)) abs ∙ is
