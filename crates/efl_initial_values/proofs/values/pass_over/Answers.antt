-- A value fills places until it is used up.
use Rattle.std.proofs.Common.{◌<◌, ◌≤◌, [], ◌∷◌, ◌++◌, length, sym, ap, ◌∙◌, rules}
use Rattle.efl_types.specs.Presets.{repeated, misfit}
use Rattle.efl_initial_values.specs.Filling.{used_up}
use Rattle.efl_initial_values.proofs.KindLemmas.{over_misfit, over_all, over_part, over_done}
use Rattle.std.proofs.Common.{drop}
use Rattle.efl_initial_values.proofs.values.pass_over.Goals as goal

pub returns-then-left-eq0 : goal.returns-then-left-eq0
returns-then-left-eq0 c = λ ls.
    let l = c.loop-number in
    l.invariant ls ∙ ap (λ n. misfit (repeated n (c.args.kind ∷ []) ++ ls) (used_up l.used (drop l.number c.args.values.now))) c.if-left-eq0.true

pub returns-then-is_misfit : goal.returns-then-is_misfit
returns-then-is_misfit c = λ ls.
    let l = c.loop-number in
    let within : l.number < length c.args.values.now = search rules in
    l.invariant ls
    ∙ over_misfit c.args.values.now l.number l.used c.run_of-run.result l.left c.value_at-value.result c.args.kind ls within c.value_at-value.ensures c.run_of-run.ensures c.if-left-eq0.false (sym c.is_misfit.ensures ∙ c.if-is_misfit.true)

pub returns-then-left-run : goal.returns-then-left-run
returns-then-left-run c = λ ls.
    let l = c.loop-number in
    let within : l.number < length c.args.values.now = search rules in
    l.invariant ls
    ∙ over_part c.args.values.now l.number l.used c.run_of-run.result l.left c.used_by-used.result c.value_at-value.result c.args.kind ls within c.value_at-value.ensures c.run_of-run.ensures c.if-left-run.true c.used_by-used.ensures
    (sym c.is_misfit.ensures ∙ c.if-is_misfit.false)

pub loop-number-preserved : goal.loop-number-preserved
loop-number-preserved c = λ ls.
    let l = c.loop-number in
    let within : l.number < length c.args.values.now = search rules in
    l.invariant ls
    ∙ over_all c.args.values.now l.number l.used c.run_of-run.result l.left c.value_at-value.result c.args.kind ls within c.value_at-value.ensures c.run_of-run.ensures c.if-left-run.false (sym c.is_misfit.ensures ∙ c.if-is_misfit.false)

pub returns : goal.returns
returns c = λ ls.
    let l = c.loop-number in
    let past : length c.args.values.now ≤ l.number = search rules in
    l.invariant ls ∙ over_done c.args.values.now l.number l.used (repeated l.left (c.args.kind ∷ []) ++ ls) ls past
