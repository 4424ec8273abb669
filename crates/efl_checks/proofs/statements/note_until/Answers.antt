-- The first rule that the condition breaks, and the variables that it meets, where there is one.
use Rattle.std.proofs.Common.{refl, sym, subst}
use Rattle.std.specs.Result.{OnOk}
use Rattle.std.proofs.lemmas.List.{append-nil}
use Rattle.std.proofs.lemmas.Result.{on_ok_weaker}
use Rattle.efl_tree.specs.Views.{expr_of}
use Rattle.efl_scope.specs.Parts.{Until}
use Rattle.efl_scoped.specs.Seen.{table_of}
use Rattle.efl_reading.specs.declared.walk.Walk.{Walk}
use Rattle.efl_reading.specs.Walked.{Read}
use Rattle.efl_checks.specs.Walks.{names_around, Adds, until_parts}
use Rattle.efl_checks.proofs.WalkLemmas.{part_read}
use Rattle.efl_checks.proofs.statements.note_until.Goals as goal

pub returns-in-None : goal.returns-in-None
returns-in-None c =
    subst (λ o. Adds c.args.types.now c.args.site.now c.args.walk.now (until_parts o) c.args.walk.now) (sym c.in-None.is)
    (λ us u a vs is read. subst (λ ws. Read us ws c.args.walk.now) (sym (append-nil vs)) read)

pub returns-in-Some : goal.returns-in-Some
returns-in-Some c =
    let y = c.args.types.now in
    let s = c.args.site.now in
    let old = c.args.walk.now in
    let new : Walk = record { progress = c.note.new.self; storage = c.count_condition.new.storage; firsts = old.firsts } in
    subst (λ o. OnOk c.count_condition.result (Adds y s old (until_parts o) new)) (sym c.in-Some.is)
    (on_ok_weaker c.count_condition.result
    (λ counts.
    part_read y s old new c.in-Some.place c.check_value.result (Until (expr_of c.in-Some.test)) c.note.ensures refl
    (λ us u a is. c.check_value.ensures (table_of y.numbers) (names_around us u a) (c.names_at-names.ensures us u a is)) (counts y) refl)
    c.count_condition.ensures)
