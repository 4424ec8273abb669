-- Those before hide structures.
use Rattle.std.proofs.Common.{◌≡◌, drop}
use Rattle.efl_tree.specs.Views.{decls_of}
use Rattle.efl_scope.specs.ScopeRules.{Names}
use Rattle.efl_scope.specs.Sights.{hiding}
use Rattle.efl_scope.specs.BlockViews.{kinds_of}
use Rattle.efl_scope.proofs.blocks.hide_declared.Given as goal

abbrev pub invariant-loop-declaration : goal.invariant-loop-declaration
invariant-loop-declaration l = (known : Names) → hiding (decls_of (drop l.declaration-index l.list)) (kinds_of l.kinds known) ≡ hiding (decls_of l.list) (kinds_of l.initial.kinds known)
