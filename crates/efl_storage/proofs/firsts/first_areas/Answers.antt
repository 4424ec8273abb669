-- One procedure more.
use Rattle.std.proofs.Common.{map, take, sym, subst}
use Rattle.efl_tree.specs.Views.{decls_of, procedure_of}
use Rattle.efl_scoped.proofs.AreaLemmas.{procedures_next}
use Rattle.efl_storage.specs.Firsts.{AreFirsts}
use Rattle.efl_storage.proofs.FirstLemmas.{Notes, firsts_more, taken_length}
use Rattle.efl_storage.proofs.firsts.first_areas.Goals as goal

pub loop-unit-preserved : goal.loop-unit-preserved
loop-unit-preserved c =
    let l = c.loop-unit in
    let all = c.args.procedures.now in
    let u = c.index-procedures-unit.result in
    let before = map procedure_of (take l.unit all) in
    let firsts = c.note_areas.new.firsts in
    subst (λ us. AreFirsts us firsts) (sym (procedures_next all l.unit u c.loop-unit-test.true c.index-procedures-unit.is))
    (firsts_more before (procedure_of u) l.unit l.firsts firsts l.invariant (taken_length all l.unit c.loop-unit-test.true)
    (subst (λ ds. Notes l.firsts l.unit (decls_of ds) firsts) c.deref.ensures.value c.in_ok-note_areas.ensures))
