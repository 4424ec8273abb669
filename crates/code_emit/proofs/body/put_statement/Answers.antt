-- A statement that is executed, or one that is not.
use Rattle.std.proofs.Common.{drop, sym, length, ◌∙◌}
use Rattle.f66_tree.specs.Views.{line_of}
use Rattle.code_emit.proofs.BodyLemmas.{executed_ends, executed_size, executed_code, passed_size, passed_code}
use Rattle.code_emit.proofs.body.put_statement.Goals as goal

pub put_executed-requires : goal.put_executed-requires
put_executed-requires g c =
    let y = g.U.NamedUnit.layout c.args.unit.now in
    let u = g.U.NamedUnit.number c.args.unit.now in
    executed_ends y u (line_of c.args.statement.now) (drop c.args.behind (y.lines u)) (sym c.is_note.ensures ∙ c.if-is_note.false) (length c.args.ops.now.items) c.requires

pub returns : goal.returns
returns g c =
    let y = g.U.NamedUnit.layout c.args.unit.now in
    let u = g.U.NamedUnit.number c.args.unit.now in
    let s = line_of c.args.statement.now in
    let rest = drop c.args.behind (y.lines u) in
    let executed = sym c.is_note.ensures ∙ c.if-is_note.false in
    record {
      size = executed_size y u s rest c.put_executed.result executed c.args.ops.now.items c.put_executed.new.ops.items c.requires c.put_executed.ensures;
      code = executed_code y u s rest c.put_executed.result executed c.args.ops.now.items c.put_executed.new.ops.items c.put_executed.ensures;
    }

pub returns-then-is_note : goal.returns-then-is_note
returns-then-is_note g c =
    let y = g.U.NamedUnit.layout c.args.unit.now in
    let u = g.U.NamedUnit.number c.args.unit.now in
    let s = line_of c.args.statement.now in
    let rest = drop c.args.behind (y.lines u) in
    let passed = sym c.is_note.ensures ∙ c.if-is_note.true in
    record {
      size = passed_size y u s rest passed (length c.args.ops.now.items) c.requires;
      code = passed_code y u s rest passed c.args.ops.now.items;
    }
