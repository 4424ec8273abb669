-- Those before hide what is around.
use Rattle.std.proofs.Common.{◌≡◌, drop}
use Rattle.efl_tree.specs.Views.{vars_of}
use Rattle.efl_whole.specs.Roles.{hide_variables}
use Rattle.efl_whole.specs.RoleViews.{roles_of}
use Rattle.efl_whole.proofs.listing.hide_variables.Given as goal

abbrev pub invariant-loop-variable : goal.invariant-loop-variable
invariant-loop-variable l =
    hide_variables (vars_of (drop l.variable-index l.list)) (roles_of l.names)
    ≡ hide_variables (vars_of l.list) (roles_of l.initial.names)
