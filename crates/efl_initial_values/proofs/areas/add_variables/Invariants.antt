-- The variables before have come.
use Rattle.std.proofs.Common.{◌++◌, List, drop}
use Rattle.std.specs.Option.{option_map}
use Rattle.efl_tree.specs.Views.{vars_of}
use Rattle.efl_scope.specs.DataTypes.{DataType}
use Rattle.efl_scope.specs.Scopes.{Variable}
use Rattle.efl_initial_values.specs.Surveys.{Holds, variables_of}
use Rattle.efl_initial_values.proofs.AreaLemmas.{Left}
use Rattle.efl_initial_values.proofs.areas.add_variables.Given as goal

abbrev pub invariant-loop-variable : goal.invariant-loop-variable
invariant-loop-variable l = (t : DataType) (vs : List Variable) → Holds vs l.fn.members l.fn.areas →
    Left (vs ++ variables_of (option_map (λ a. a.now) l.area) t (vars_of l.list)) (variables_of (option_map (λ a. a.now) l.area) t (vars_of (drop l.variable-index l.list))) l.members l.areas
