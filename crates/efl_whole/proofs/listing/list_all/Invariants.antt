-- The declarations before have come.
use Rattle.std.proofs.Common.{◌≡◌, drop}
use Rattle.efl_tree.specs.Views.{decls_of}
use Rattle.efl_whole.specs.Roles.{list_all}
use Rattle.efl_whole.specs.RoleViews.{scope_of, listed_of}
use Rattle.efl_whole.proofs.listing.list_all.Given as goal

abbrev pub invariant-loop-declaration : goal.invariant-loop-declaration
invariant-loop-declaration l =
    list_all (scope_of l.outside) (decls_of (drop l.declaration-index l.list)) (listed_of l.block)
    ≡ list_all (scope_of l.outside) (decls_of l.list) (listed_of l.initial.block)
