-- The declarations before are seen.
use Rattle.std.proofs.Common.{◌≡◌, drop}
use Rattle.efl_tree.specs.Views.{decls_of}
use Rattle.efl_scope.specs.Sights.{declarations_seen}
use Rattle.efl_scope.specs.AreaViews.{agreeing_of}
use Rattle.efl_scope.specs.NameViews.{chain_of}
use Rattle.efl_scope.specs.WalkViews.{opened_of}
use Rattle.efl_scope.proofs.declarations.see_declarations.Given as goal

abbrev pub invariant-loop-declaration : goal.invariant-loop-declaration
invariant-loop-declaration l =
    declarations_seen (agreeing_of l.agreeing) (chain_of l.formals) (decls_of (drop l.declaration-index l.list)) (opened_of l.block l.outside l.walk)
    ≡ declarations_seen (agreeing_of l.agreeing) (chain_of l.formals) (decls_of l.list) (opened_of l.initial.block l.outside l.initial.walk)
