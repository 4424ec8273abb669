-- The first statement that is executed, and what is done behind its Begin.
use Rattle.std.proofs.Common.{sym, drop, ◌∙◌, ◌+◌, arith}
use Rattle.f66_tree.specs.Execution.{runnable}
use Rattle.f66_tree.specs.Views.{line_of, lines_of}
use Rattle.stack_code.specs.Views.{code_of}
use Rattle.code_gen.specs.Statements.{first_code, prologue_code}
use Rattle.code_emit.proofs.OpeningLemmas.{nothing_first, nothing_put, none_runs, runs_at, enters_at, prologue_put}
use Rattle.code_emit.proofs.prologue.put_prologue.Goals as goal

pub returns-then-size-eq0 : goal.returns-then-size-eq0
returns-then-size-eq0 g c =
    let y = g.U.NamedUnit.layout c.args.unit.now in
    let u = g.U.NamedUnit.number c.args.unit.now in
    let first = first_code y u in
    let runs = runnable (y.lines u) in
    nothing_put (code_of c.args.ops.now.items) (prologue_code y u first runs) (nothing_first y u first runs (sym c.in_ok-size.ensures ∙ c.if-size-eq0.true))

pub returns-then-number-statements : goal.returns-then-number-statements
returns-then-number-statements g c =
    let y = g.U.NamedUnit.layout c.args.unit.now in
    let u = g.U.NamedUnit.number c.args.unit.now in
    let first = first_code y u in
    nothing_put (code_of c.args.ops.now.items) (prologue_code y u first (runnable (y.lines u)))
    (none_runs y u c.statements-statements.result.now (y.lines u) c.statements-statements.ensures c.first_executed-number.result c.first_executed-number.ensures first c.if-number-statements.true)

pub returns : goal.returns
returns g c =
    let y = g.U.NamedUnit.layout c.args.unit.now in
    let u = g.U.NamedUnit.number c.args.unit.now in
    let all = c.statements-statements.result.now in
    let n = c.first_executed-number.result in
    let s = c.index-statements-number.result in
    prologue_put y u (first_code y u) c.put-2.result c.args.ops.now.items c.put.new.ops.items c.put_opening.new.ops.items c.put-2.new.ops.items (runnable (y.lines u)) (line_of s) (lines_of (drop (n + 1) all)) c.in_ok-entry.entry
    (omega arith)
    (runs_at y u all (y.lines u) c.statements-statements.ensures n c.first_executed-number.ensures s c.if-number-statements.false c.index-statements-number.is)
    (enters_at y u all (y.lines u) c.statements-statements.ensures n c.first_executed-number.ensures s c.if-number-statements.false c.index-statements-number.is c.place-start.result c.in_ok-entry.entry c.place-start.ensures c.in_ok-entry.ensures)
    c.in_ok-put.ensures c.in_ok-put_opening.ensures c.put-2.ensures
