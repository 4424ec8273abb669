-- The declarations before have come.
use Rattle.std.proofs.Common.{drop}
use Rattle.efl_tree.specs.Views.{decls_of}
use Rattle.efl_blocks.proofs.DeclaredLemmas.{DeclarationsLeft}
use Rattle.efl_blocks.proofs.declared.declare_all.Given as goal

abbrev pub invariant-loop-declaration : goal.invariant-loop-declaration
invariant-loop-declaration l =
    DeclarationsLeft l.fn.types l.fn.known l.beyond (decls_of l.list) l.types l.known (decls_of (drop l.declaration-index l.list)) l.block
