-- The groups before have come.
use Rattle.std.proofs.Common.{◌++◌, List, drop}
use Rattle.efl_tree.specs.Views.{groups_of}
use Rattle.efl_scope.specs.Scopes.{Blocks, Variable, group_variables}
use Rattle.efl_initial_values.specs.Surveys.{Holds}
use Rattle.efl_initial_values.proofs.AreaLemmas.{GroupsLeft}
use Rattle.efl_initial_values.proofs.areas.add_groups.Given as goal

abbrev pub invariant-loop-group : goal.invariant-loop-group
invariant-loop-group l = (bs : Blocks) (vs : List Variable) → Holds vs l.fn.members l.fn.areas →
    GroupsLeft (vs ++ group_variables l.area bs (groups_of l.groups)) l.area (groups_of (drop l.group-index l.groups)) l.members l.areas
