-- The first rule that the statement breaks, by the procedure that it stands in, and the variables that it meets.
use Rattle.std.proofs.Common.{refl}
use Rattle.std.proofs.lemmas.Result.{on_ok_weaker}
use Rattle.efl_scope.specs.Parts.{States}
use Rattle.efl_tree.specs.Views.{kind_of}
use Rattle.efl_scoped.specs.Seen.{table_of}
use Rattle.efl_reading.specs.declared.walk.Walk.{Walk}
use Rattle.efl_checks.specs.Walks.{names_around}
use Rattle.efl_checks.proofs.WalkLemmas.{part_read}
use Rattle.efl_checks.proofs.statements.note_statement.Goals as goal

pub returns : goal.returns
returns c =
    let y = c.args.types.now in
    let s = c.args.site.now in
    let old = c.args.walk.now in
    let new : Walk = record { progress = c.note.new.self; storage = c.count_statement.new.storage; firsts = old.firsts } in
    on_ok_weaker c.count_statement.result
    (λ counts ls.
    part_read y s old new c.args.place c.statement_rule.result (States ls (kind_of c.args.kind.now)) c.note.ensures refl
    (λ us u a is. c.statement_rule.ensures (table_of y.numbers) (names_around us u a) (c.names_at-names.ensures us u a is)) (counts y ls) refl)
    c.count_statement.ensures
