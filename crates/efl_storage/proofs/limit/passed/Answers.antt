-- One procedure more.
use Rattle.std.proofs.Common.{◌≡◌, ◌<◌, ◌≤◌, ◌+◌, map, drop, Some, unwrap_or, sym, ap, ◌∙◌, arith}
use Rattle.std.specs.List.{slice_get}
use Rattle.std.proofs.lemmas.Option.{unwrap_or-slice_get}
use Rattle.efl_tree.specs.Views.{procedure_of, stmts_of}
use Rattle.efl_scope.proofs.TreeLemmas.{drop_next}
use Rattle.ground.specs.Faults.{limit_at}
use Rattle.efl_types.specs.Whole.{begins_at}
use Rattle.efl_storage.specs.Counted.{passed_by}
use Rattle.efl_storage.proofs.LimitLemmas.{passes_here, passes_later}
use Rattle.efl_storage.proofs.limit.passed.Goals as goal

pub returns-then-sum-gt-LIMIT : goal.returns-then-sum-gt-LIMIT
returns-then-sum-gt-LIMIT c =
    let l = c.loop-unit in
    let sums = c.args.places.now in
    let list = c.args.procedures.now in
    let v : c.unwrap_or.result ≡ unwrap_or (slice_get sums l.unit) 0 = c.unwrap_or.ensures ∙ ap (λ o. unwrap_or o 0) c.copied.ensures ∙ c.get.ensures.lookup.4 (omega arith) 0 ∙ sym (unwrap_or-slice_get sums l.unit 0) in
    let past : 1000000 < c.saturating_add-sum.result = omega arith in
    let few : c.saturating_add-sum.result ≤ l.sum + c.unwrap_or.result = omega arith in
    let here = passes_here sums l.unit l.sum c.saturating_add-sum.result c.unwrap_or.result (procedure_of c.index-procedures-unit.result) (map procedure_of (drop (l.unit + 1) list)) v past few in
    ap (λ f. Some f) (c.limit.ensures ∙ ap (λ p. limit_at p 8) (c.begins_at.ensures ∙ ap (λ ss. begins_at (stmts_of ss) c.index-procedures-unit.result.finish) c.deref.ensures.value)) ∙ here
    ∙ sym (ap (λ ps. passed_by sums l.unit l.sum (map procedure_of ps)) (drop_next list l.unit c.index-procedures-unit.result c.loop-unit-test.true c.index-procedures-unit.is)) ∙ l.invariant

pub loop-unit-preserved : goal.loop-unit-preserved
loop-unit-preserved c =
    let l = c.loop-unit in
    let sums = c.args.places.now in
    let list = c.args.procedures.now in
    let v : c.unwrap_or.result ≡ unwrap_or (slice_get sums l.unit) 0 = c.unwrap_or.ensures ∙ ap (λ o. unwrap_or o 0) c.copied.ensures ∙ c.get.ensures.lookup.4 (omega arith) 0 ∙ sym (unwrap_or-slice_get sums l.unit 0) in
    let within : c.saturating_add-sum.result ≤ 1000000 = omega arith in
    let exact : c.saturating_add-sum.result ≡ l.sum + c.unwrap_or.result = omega arith in
    passes_later sums l.unit l.sum c.saturating_add-sum.result c.unwrap_or.result (procedure_of c.index-procedures-unit.result) (map procedure_of (drop (l.unit + 1) list)) v within exact
    ∙ sym (ap (λ ps. passed_by sums l.unit l.sum (map procedure_of ps)) (drop_next list l.unit c.index-procedures-unit.result c.loop-unit-test.true c.index-procedures-unit.is)) ∙ l.invariant
