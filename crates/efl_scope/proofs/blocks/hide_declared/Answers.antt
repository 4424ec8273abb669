-- One declaration more.
use Rattle.std.proofs.Common.{◌+◌, drop, sym, ap, ◌∙◌}
use Rattle.efl_tree.specs.Views.{decls_of}
use Rattle.efl_scope.specs.Sights.{hiding}
use Rattle.efl_scope.specs.BlockViews.{kinds_of}
use Rattle.efl_scope.proofs.TreeLemmas.{drop_next}
use Rattle.efl_scope.proofs.blocks.hide_declared.Goals as goal

pub loop-declaration-preserved : goal.loop-declaration-preserved
loop-declaration-preserved c = λ known.
    let l = c.loop-declaration in
    let list = c.args.list.now in
    let before = kinds_of l.kinds known in
    ap (hiding (decls_of (drop (l.declaration-index + 1) list))) (c.in_ok-hide_by.ensures known)
    ∙ sym (ap (λ ds. hiding (decls_of ds) before) (drop_next list l.declaration-index c.declaration-item.result c.loop-declaration-test.true c.declaration-item.is))
    ∙ l.invariant known
