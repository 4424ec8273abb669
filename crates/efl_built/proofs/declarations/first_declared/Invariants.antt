-- Those before are built.
use Rattle.std.proofs.Common.{◌≡◌, drop}
use Rattle.efl_tree.specs.Views.{decls_of}
use Rattle.efl_built.specs.Walks.{first_declared}
use Rattle.efl_built.proofs.declarations.first_declared.Given as goal

abbrev pub invariant-loop-declaration : goal.invariant-loop-declaration
invariant-loop-declaration l = first_declared (decls_of (drop l.declaration-index l.list)) ≡ first_declared (decls_of l.list)
