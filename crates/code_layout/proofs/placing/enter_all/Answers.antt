-- The sizes are those of a layout without entries.
use Rattle.std.proofs.Common.{◌<◌, ◌∙◌, slice_index_or, sym, ap, subst}
use Rattle.std.proofs.lemmas.Result.{on_ok_weaker}
use Rattle.code_gen.specs.Statements.{unit_size}
use Rattle.code_layout.proofs.SpreadLemmas.{unplaced_layout}
use Rattle.code_layout.proofs.placing.enter_all.Goals as goal

pub returns : goal.returns
returns c =
    let t = c.args.tables.now in
    let m = c.args.spread.now in
    on_ok_weaker c.enter.result
    (λ entered rank kept.
    let same = unplaced_layout t m rank c.requires.presets kept c.requires.starts c.requires.end in
    entered rank kept
    (λ u lt.
    ap (λ xs. slice_index_or xs u 0) c.deref.ensures.value
    ∙ c.in_ok-sizes.ensures.each u 0 (subst (λ n. u < n) (sym t.many) lt)
    ∙ ap (λ y. unit_size y u) same)
    c.requires.main)
    c.enter.ensures
