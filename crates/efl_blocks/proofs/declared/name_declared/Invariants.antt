-- The names before have come.
use Rattle.std.proofs.Common.{drop}
use Rattle.efl_tree.specs.Views.{decls_of}
use Rattle.efl_blocks.specs.DeclaredViews.{declared_names}
use Rattle.efl_blocks.proofs.DeclaredLemmas.{NamesLeft}
use Rattle.efl_blocks.proofs.declared.name_declared.Given as goal

abbrev pub invariant-loop-declaration : goal.invariant-loop-declaration
invariant-loop-declaration l = NamesLeft l.fn.block (declared_names (decls_of l.list)) l.block (declared_names (decls_of (drop l.declaration-index l.list)))
