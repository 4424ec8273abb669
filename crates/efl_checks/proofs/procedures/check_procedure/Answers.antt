-- The header, and then what is behind it.
use Rattle.std.proofs.Common.{sym, ap, subst}
use Rattle.std.proofs.lemmas.Result.{on_ok_weaker}
use Rattle.efl_tree.specs.Views.{procedure_of, decls_of}
use Rattle.efl_checks.specs.Walks.{IsKnown}
use Rattle.efl_checks.proofs.ProcedureLemmas.{procedure_read}
use Rattle.efl_checks.proofs.procedures.check_procedure.Goals as goal

pub returns : goal.returns
returns c =
    let u = procedure_of c.args.procedure.now in
    let o = c.args.outer in
    let n = c.args.unit in
    let units = c.args.units.now in
    let outcome = c.outcome_of.result in
    let areas = c.in_ok-areas.areas in
    let own = c.procedure_at-own.result in
    on_ok_weaker c.check_outer.result
    (procedure_read c.args.types.now c.check_outer.new.types n u o units outcome areas own c.args.walk.now c.note_header.new.walk c.check_outer.new.walk
    (subst (λ xs. IsKnown n xs o.letters units outcome areas own) c.deref-2.ensures.value c.procedure_at-own.ensures) c.outcome_of.ensures
    (c.in_ok-areas.ensures u (ap decls_of (sym c.deref.ensures.value))) c.in_ok-note_header.ensures)
    c.check_outer.ensures
