-- Those in the parentheses of an array.
use Rattle.std.proofs.Common.{◌≡◌, ◌++◌, true, map, ap, sym, ◌∙◌}
use Rattle.std.specs.Prelude.{[], if◌then◌else◌}
use Rattle.std.proofs.lemmas.Result.{on_ok_weaker}
use Rattle.f66_tree.specs.Views.{formulas_of}
use Rattle.f66_names.specs.DeclarationViews.{context_in}
use Rattle.f66_names.specs.Sorts.{is_array_name}
use Rattle.f66_names.specs.Uses.{uses_of_all}
use Rattle.f66_names.specs.UseViews.{use_of}
use Rattle.f66_tree.proofs.Rows.{item_seen}
use Rattle.unit_rules.specs.Listed.{uses_of_place}
use Rattle.unit_rules.proofs.more_uses.collect_place.Goals as goal

pub returns-then-is_array : goal.returns-then-is_array
returns-then-is_array c =
    let around = context_in c.args.declarations.now in
    let old = map use_of c.args.uses.now.items in
    let seen = c.deref-then-is_array.result.now in
    let array : true ≡ is_array_name around c.deref.result.now.0 = sym c.if-is_array.true ∙ c.is_array.ensures in
    on_ok_weaker c.collect_all.result
    (λ e. e ∙ ap (λ b. old ++ (if b then uses_of_all (formulas_of seen) else [])) array
    ∙ ap (λ us. old ++ us) (item_seen (uses_of_place around) c.args.e.now c.in-Item.item c.deref.result.now seen c.in-Item.is c.deref.ensures c.deref-then-is_array.ensures.value)) c.collect_all.ensures
