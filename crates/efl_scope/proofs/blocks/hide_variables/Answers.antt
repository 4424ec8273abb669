-- One variable more.
use Rattle.std.proofs.Common.{◌+◌, drop, sym, ap, ◌∙◌}
use Rattle.efl_tree.specs.Views.{vars_of}
use Rattle.efl_scope.specs.Parts.{names_of}
use Rattle.efl_scope.specs.Sights.{without_name, without_names}
use Rattle.efl_scope.specs.BlockViews.{kinds_of}
use Rattle.efl_scope.proofs.TreeLemmas.{drop_next}
use Rattle.efl_scope.proofs.blocks.hide_variables.Goals as goal

pub loop-variable-preserved : goal.loop-variable-preserved
loop-variable-preserved c = λ known.
    let l = c.loop-variable in
    let list = c.args.list.now in
    let before = kinds_of l.kinds known in
    ap (without_names (names_of (vars_of (drop (l.variable-index + 1) list)))) (c.in_ok-hide.ensures known ∙ ap (λ x. without_name x before) c.as_bytes.ensures)
    ∙ sym (ap (λ vs. without_names (names_of (vars_of vs)) before) (drop_next list l.variable-index c.variable-item.result c.loop-variable-test.true c.variable-item.is))
    ∙ l.invariant known
