-- The first rule that the header breaks, and its formals.
use Rattle.std.proofs.Common.{refl, subst}
use Rattle.std.proofs.lemmas.Result.{on_ok_weaker}
use Rattle.efl_tree.specs.Views.{procedure_of}
use Rattle.efl_reading.specs.Counting.{CountsHeader}
use Rattle.efl_reading.specs.declared.walk.Walk.{Walk}
use Rattle.efl_checks.proofs.ProcedureLemmas.{header_added}
use Rattle.efl_checks.proofs.procedures.note_header.Goals as goal

pub returns : goal.returns
returns c =
    let u = procedure_of c.args.procedure.now in
    let n = c.args.unit in
    let old = c.args.walk.now in
    let new : Walk = record { progress = c.note.new.self; storage = c.count_header.new.storage; firsts = old.firsts } in
    on_ok_weaker c.count_header.result
    (λ counts.
    header_added n u c.args.letters.now c.args.block.now old new c.in_ok-rule.rule c.in_ok-rule.ensures (c.note.ensures)
    (subst (λ xs. CountsHeader n xs c.args.block.now old.storage new.storage) c.deref.ensures.value counts) refl)
    c.count_header.ensures
