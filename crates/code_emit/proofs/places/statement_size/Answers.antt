-- A statement that is executed, or one that is not.
use Rattle.std.proofs.Common.{ap, sym, ◌∙◌}
use Rattle.f66_tree.specs.Views.{line_of}
use Rattle.code_gen.specs.Statements.{turns_size}
use Rattle.code_emit.proofs.PlaceLemmas.{note_sized, statement_sized}
use Rattle.code_emit.proofs.places.statement_size.Goals as goal

pub returns-then-is_note : goal.returns-then-is_note
returns-then-is_note g c =
    let y = g.U.NamedUnit.layout c.args.unit.now in
    let u = g.U.NamedUnit.number c.args.unit.now in
    note_sized y u (line_of c.args.statement.now) (sym c.is_note.ensures ∙ c.if-is_note.true)

pub returns : goal.returns
returns g c =
    let y = g.U.NamedUnit.layout c.args.unit.now in
    let u = g.U.NamedUnit.number c.args.unit.now in
    statement_sized c.plus-2.result y u (line_of c.args.statement.now) c.in_ok-act.act c.in_ok-turns.turns c.in_ok-both.both (sym c.is_note.ensures ∙ c.if-is_note.false)
    c.in_ok-act.ensures (c.in_ok-turns.ensures ∙ ap turns_size (c.ending.ensures (y.lines u) c.requires)) c.in_ok-both.ensures c.plus-2.ensures
