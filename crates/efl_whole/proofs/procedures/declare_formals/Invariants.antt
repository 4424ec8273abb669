-- The formals before have come.
use Rattle.std.proofs.Common.{◌≡◌, drop}
use Rattle.efl_whole.specs.Roles.{with_formals}
use Rattle.efl_whole.specs.RoleViews.{roles_of, letters_of}
use Rattle.efl_whole.proofs.procedures.declare_formals.Given as goal

abbrev pub invariant-loop-formal : goal.invariant-loop-formal
invariant-loop-formal l =
    with_formals (letters_of l.letters) (drop l.formal-index l.list) (roles_of l.variables)
    ≡ with_formals (letters_of l.letters) l.list (roles_of l.initial.variables)
