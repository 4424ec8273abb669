-- What stands before has been seen.
use Rattle.std.proofs.Common.{◌≡◌, List, drop}
use Rattle.ground.specs.declared.value.Kind.TheVariants.{Integer}
use Rattle.efl_tree.specs.Views.{exprs_of, steps_of}
use Rattle.efl_scope.specs.DataTypes.{DataType}
use Rattle.efl_types.specs.Signatures.{Names}
use Rattle.efl_scoped.specs.Numbers.{Table}
use Rattle.efl_expressions.specs.FirstRule.{or_lower}
use Rattle.efl_expressions.specs.TypeViews.{IsType}
use Rattle.efl_names.specs.NameViews.{Stands, AreTypes}
use Rattle.efl_places.specs.Checks.{GoesOn}
use Rattle.efl_places.proofs.ListLemmas.{integers_rule, actuals_rule}
use Rattle.efl_places.proofs.expressions.+check.Given as goal

abbrev pub invariant-check_integers-loop-e : goal.invariant-check_integers-loop-e
invariant-check_integers-loop-e l = (f : Table) (n : Names) → Stands f n l.names →
    or_lower l.rule (integers_rule n Integer (exprs_of (drop l.e-index l.list))) ≡ integers_rule n Integer (exprs_of l.list)

abbrev pub invariant-check_formals-loop-i : goal.invariant-check_formals-loop-i
invariant-check_formals-loop-i l = (f : Table) (n : Names) (ts : List DataType) → Stands f n l.names → AreTypes f l.names.structures.now.list.items ts l.formals →
    or_lower l.rule (actuals_rule n (drop l.i ts) (exprs_of (drop l.i l.list))) ≡ actuals_rule n ts (exprs_of l.list)

abbrev pub invariant-check_steps-loop-step : goal.invariant-check_steps-loop-step
invariant-check_steps-loop-step l = (f : Table) (n : Names) (t : DataType) → Stands f n l.names → IsType f l.names.structures.now.list.items t l.initial.at.kind →
    GoesOn f l.names.structures.now.list.items n t l.initial.at (steps_of l.list) (steps_of (drop l.step-index l.list)) l.at
