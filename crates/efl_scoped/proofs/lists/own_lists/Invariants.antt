-- The declarations before have come.
use Rattle.std.proofs.Common.{drop}
use Rattle.efl_tree.specs.Views.{decls_of}
use Rattle.efl_scoped.specs.Seen.{table_of}
use Rattle.efl_scoped.proofs.ListLemmas.{DeclarationsLeft}
use Rattle.efl_scoped.proofs.lists.own_lists.Given as goal

abbrev pub invariant-loop-declaration : goal.invariant-loop-declaration
invariant-loop-declaration l =
    DeclarationsLeft (table_of l.fn.numbers) (decls_of l.declarations) (table_of l.numbers) l.known l.lists (decls_of (drop l.declaration-index l.declarations))
