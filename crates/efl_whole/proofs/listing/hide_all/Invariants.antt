-- Those before hide what is around.
use Rattle.std.proofs.Common.{◌≡◌, drop}
use Rattle.efl_tree.specs.Views.{decls_of}
use Rattle.efl_whole.specs.Roles.{hide_all}
use Rattle.efl_whole.specs.RoleViews.{roles_of}
use Rattle.efl_whole.proofs.listing.hide_all.Given as goal

abbrev pub invariant-loop-declaration : goal.invariant-loop-declaration
invariant-loop-declaration l =
    hide_all (decls_of (drop l.declaration-index l.list)) (roles_of l.names)
    ≡ hide_all (decls_of l.list) (roles_of l.initial.names)
