-- The variables before have come.
use Rattle.std.proofs.Common.{◌≡◌, drop}
use Rattle.efl_tree.specs.Views.{vars_of}
use Rattle.efl_whole.specs.Roles.{with_variables}
use Rattle.efl_whole.specs.RoleViews.{roles_of}
use Rattle.efl_whole.proofs.listing.declare_all.Given as goal

abbrev pub invariant-loop-variable : goal.invariant-loop-variable
invariant-loop-variable l =
    with_variables l.role (vars_of (drop l.variable-index l.list)) (roles_of l.roles)
    ≡ with_variables l.role (vars_of l.list) (roles_of l.initial.roles)
