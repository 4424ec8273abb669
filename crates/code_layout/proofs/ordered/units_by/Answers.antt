-- One unit more is there.
use Rattle.std.proofs.Common.{◌≡◌, ◌++◌, ◌∷◌, [], ℕ, All, map, take, sym, ap, subst, ◌∙◌}
use Rattle.std.proofs.lemmas.List.{map-append, take_more}
use Rattle.std.proofs.lemmas.List.Elements.{All-push}
use Rattle.code_layout.specs.declared.linked_unit.LinkedUnit.{LinkedUnit}
use Rattle.code_layout.specs.Tabled.{layout_in}
use Rattle.code_layout.proofs.ordered.units_by.Goals as goal

pub loop-number-preserved : goal.loop-number-preserved
loop-number-preserved c =
    let y = layout_in c.args.tables.now c.args.spread.now in
    let P : LinkedUnit → Type 0 = λ x. layout_in x.tables.now x.spread.now ≡ y in
    let f : LinkedUnit → ℕ = λ x. x.number in
    let order = c.args.order.now in
    let i = c.loop-number.number-index in
    let old = c.loop-number.units.items in
    let x = c.unit_by-unit.result in
    record {
      numbers =
          ap (map f) c.in_ok-push.ensures.items ∙ map-append f old (x ∷ [])
          ∙ ap (λ ns. ns ++ f x ∷ []) c.loop-number.invariant.numbers
          ∙ ap (λ n. take i order ++ n ∷ []) c.unit_by-unit.ensures.number
          ∙ sym (take_more order i 0 c.loop-number-test.true);
      one = subst (All P) (sym c.in_ok-push.ensures.items) (All-push P old x c.loop-number.invariant.one c.unit_by-unit.ensures.layout);
    }
