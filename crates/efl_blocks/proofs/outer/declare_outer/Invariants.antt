-- The declarations before have come.
use Rattle.std.proofs.Common.{drop}
use Rattle.efl_tree.specs.Views.{decls_of}
use Rattle.efl_blocks.proofs.OuterLemmas.{OuterLeft}
use Rattle.efl_blocks.proofs.outer.declare_outer.Given as goal

abbrev pub invariant-loop-declaration : goal.invariant-loop-declaration
invariant-loop-declaration l =
    OuterLeft l.fn.types l.fn.known l.fn.block l.fn.letters (decls_of l.list) l.types l.known l.block l.letters (decls_of (drop l.declaration-index l.list))
