-- The declarations before are read.
use Rattle.std.proofs.Common.{drop}
use Rattle.efl_tree.specs.Views.{decls_of}
use Rattle.efl_declarations.proofs.CheckLemmas.{DeclarationsLeft}
use Rattle.efl_declarations.proofs.declarations.check_declarations.Given as goal

abbrev pub invariant-loop-declaration : goal.invariant-loop-declaration
invariant-loop-declaration l =
    DeclarationsLeft l.fn.types l.fn.known l.site l.fn.walk (decls_of l.list) l.types l.known l.walk (decls_of (drop l.declaration-index l.list))
