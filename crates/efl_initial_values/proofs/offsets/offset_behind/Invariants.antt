-- The steps before have led here.
use Rattle.std.proofs.Common.{drop}
use Rattle.efl_tree.specs.Views.{steps_of}
use Rattle.efl_scope.specs.DataTypes.{DataType}
use Rattle.efl_scoped.specs.Numbers.{Table}
use Rattle.efl_expressions.specs.TypeViews.{IsType}
use Rattle.efl_initial_values.proofs.PlaceLemmas.{StepsLeft}
use Rattle.efl_initial_values.proofs.offsets.offset_behind.Given as goal

abbrev pub invariant-loop-step : goal.invariant-loop-step
invariant-loop-step l = (f : Table) (t : DataType) → IsType f l.structures.list.items t l.fn.first.kind →
    StepsLeft f l.structures.list.items t l.fn.first.before (steps_of l.steps) l.reached (steps_of (drop l.step-index l.steps))
