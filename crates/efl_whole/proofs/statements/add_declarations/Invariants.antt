-- The structures of the declarations before are known, and these have given their calls.
use Rattle.std.proofs.Common.{◌≡◌, drop}
use Rattle.efl_tree.specs.Views.{decls_of}
use Rattle.efl_whole.specs.Roles.{behind_all}
use Rattle.efl_whole.specs.RoleViews.{roles_of}
use Rattle.efl_whole.specs.Calls.{declarations_calls}
use Rattle.efl_whole.specs.CallViews.{calls_of, site_of}
use Rattle.efl_whole.proofs.statements.add_declarations.Given as goal

abbrev pub invariant-loop-declaration : goal.invariant-loop-declaration
invariant-loop-declaration l =
    (behind_all (decls_of (drop l.declaration-index l.list)) (roles_of l.own) ≡ behind_all (decls_of l.list) (roles_of l.initial.own))
    × (declarations_calls (site_of l.site) (decls_of (drop l.declaration-index l.list)) (roles_of l.own) (calls_of l.calls)
    ≡ declarations_calls (site_of l.site) (decls_of l.list) (roles_of l.initial.own) (calls_of l.initial.calls))
