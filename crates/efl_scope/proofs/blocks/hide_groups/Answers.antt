-- One group more.
use Rattle.std.proofs.Common.{◌+◌, drop, sym, ap, ◌∙◌}
use Rattle.efl_tree.specs.Views.{vars_of, groups_of}
use Rattle.efl_scope.specs.Parts.{names_of}
use Rattle.efl_scope.specs.Sights.{without_names, hiding_list}
use Rattle.efl_scope.specs.BlockViews.{kinds_of}
use Rattle.efl_scope.proofs.TreeLemmas.{drop_next}
use Rattle.efl_scope.proofs.blocks.hide_groups.Goals as goal

pub loop-group-preserved : goal.loop-group-preserved
loop-group-preserved c = λ known.
    let l = c.loop-group in
    let list = c.args.groups.now in
    let before = kinds_of l.kinds known in
    ap (hiding_list (groups_of (drop (l.group-index + 1) list))) (c.in_ok-hide_variables.ensures known ∙ ap (λ vs. without_names (names_of (vars_of vs)) before) c.deref.ensures.value)
    ∙ sym (ap (λ gs. hiding_list (groups_of gs) before) (drop_next list l.group-index c.group-item.result c.loop-group-test.true c.group-item.is))
    ∙ l.invariant known
