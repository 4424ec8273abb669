-- The variables of the declarations before have come.
use Rattle.std.proofs.Common.{drop}
use Rattle.efl_tree.specs.Views.{decls_of}
use Rattle.efl_bindings.proofs.TableLemmas.{DeclarationsLeft}
use Rattle.efl_bindings.proofs.blocks.declared_table.Given as goal

abbrev pub invariant-loop-declaration : goal.invariant-loop-declaration
invariant-loop-declaration l = DeclarationsLeft l.home (decls_of l.list) l.table (decls_of (drop l.declaration-index l.list))
