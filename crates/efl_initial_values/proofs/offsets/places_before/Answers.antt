-- Whole elements stand before one.
use Rattle.std.proofs.Common.{◌*◌, Some, refl, sym, ap, ◌∙◌}
use Rattle.efl_scope.specs.DataTypes.{places}
use Rattle.std.specs.Option.{option_map}
use Rattle.efl_tree.specs.Views.{exprs_of}
use Rattle.efl_types.specs.Expressions.{element_of}
use Rattle.efl_types.specs.Presets.{places_before}
use Rattle.efl_scoped.specs.Told.{capped}
use Rattle.efl_initial_values.proofs.PlaceLemmas.{places_are, empty_is, some_exprs}
use Rattle.efl_initial_values.proofs.offsets.places_before.Goals as goal

pub returns-then-is_empty : goal.returns-then-is_empty
returns-then-is_empty c = λ f t made. sym (ap (λ es. option_map capped (places_before t (exprs_of es))) (empty_is c.is_empty.result c.args.subscripts.now c.is_empty.ensures c.if-is_empty.true))

pub returns-in-None : goal.returns-in-None
returns-in-None c = λ f t made.
    let ss = c.args.structures.now.list.items in
    let d = c.args.kind.now in
    ap (option_map (λ i. capped (i * capped (places (element_of t))))) c.in-None.ensures
    ∙ places_are f ss t d.bounds.now d.element (capped (places (element_of t))) (exprs_of c.args.subscripts.now) made.made refl (some_exprs c.is_empty.result c.args.subscripts.now c.is_empty.ensures c.if-is_empty.false)

pub returns-in-Some : goal.returns-in-Some
returns-in-Some c = λ f t made.
    let ss = c.args.structures.now.list.items in
    let d = c.args.kind.now in
    let q = c.element.result.summary.places in
    ap Some c.multiply.ensures ∙ ap (option_map (λ i. capped (i * q))) c.in-Some.ensures
    ∙ places_are f ss t d.bounds.now d.element q (exprs_of c.args.subscripts.now) made.made (c.element.ensures f t made).told.places (some_exprs c.is_empty.result c.args.subscripts.now c.is_empty.ensures c.if-is_empty.false)
