-- A variable without subscripts and steps.
use Rattle.std.proofs.Common.{refl, subst}
use Rattle.efl_tree.specs.Views.{exprs_of, steps_of, place_of}
use Rattle.efl_typed.specs.Typing.{variable_named}
use Rattle.efl_bindings.specs.Bindings.{IsScalar}
use Rattle.efl_bindings.proofs.ExpressionLemmas.{target_is}
use Rattle.efl_bindings.proofs.sites.typed_target.Goals as goal

pub returns : goal.returns
returns c = λ at is built.
    let p = c.args.place.now in
    target_is at (place_of p) p.first (exprs_of p.subscripts.items) (steps_of p.steps.items) c.typed_variable.result refl
    (subst (λ x. IsScalar at.variables at.around.unit (variable_named at x) c.typed_variable.result) c.as_bytes.ensures (c.typed_variable.ensures at is)) built
