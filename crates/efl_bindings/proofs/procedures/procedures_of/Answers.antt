-- One procedure more has its number.
use Rattle.efl_bindings.specs.Bindings.{procedure_in}
use Rattle.efl_bindings.proofs.ProcedureLemmas.{procedure_more}
use Rattle.efl_bindings.proofs.procedures.procedures_of.Goals as goal

pub loop-number-preserved : goal.loop-number-preserved
loop-number-preserved c = λ x.
    let i = c.loop-number.number in
    let u = c.index-list-number.result in
    procedure_more x c.args.list.now i u c.given_kind-kind.result (procedure_in c.loop-number.procedures x) (procedure_in c.note_name.new.procedures x) c.loop-number-test.true c.index-list-number.is
    c.given_kind-kind.ensures (c.loop-number.invariant x) (c.in_ok-note_name.ensures x)
