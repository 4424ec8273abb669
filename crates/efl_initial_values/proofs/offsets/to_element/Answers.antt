-- Where the element is, and what it is.
use Rattle.std.proofs.Common.{sym, subst, refl}
use Rattle.efl_tree.specs.Views.{exprs_of}
use Rattle.efl_types.specs.Types.{subscripted}
use Rattle.efl_types.specs.Presets.{places_before}
use Rattle.efl_expressions.specs.TypeViews.{IsType}
use Rattle.efl_initial_values.proofs.OffsetLemmas.{many_is, none_of}
use Rattle.efl_initial_values.proofs.PlaceLemmas.{element_found}
use Rattle.efl_initial_values.proofs.offsets.to_element.Goals as goal

pub returns-in-None : goal.returns-in-None
returns-in-None c = λ f t made. none_of (places_before t (exprs_of c.args.subscripts.now)) (c.in-None.ensures f t made)

pub returns-in-Some : goal.returns-in-Some
returns-in-Some c = λ f t made.
    let es = c.args.subscripts.now in
    element_found f c.args.structures.now.list.items t c.args.before c.in-Some.places c.add.result (exprs_of es) _ (c.in-Some.ensures f t made) c.add.ensures refl
    (subst (λ n. IsType f c.args.structures.now.list.items (subscripted t n) c.subscripted.result) (sym (many_is es)) (c.subscripted.ensures f t made))
