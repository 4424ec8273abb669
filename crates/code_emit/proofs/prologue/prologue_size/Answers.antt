-- Something stands there where some statement is executed and something is done before it.
use Rattle.std.proofs.Common.{sym, ◌∙◌, arith}
use Rattle.code_gen.specs.Statements.{first_code}
use Rattle.f66_tree.specs.Execution.{runnable}
use Rattle.code_emit.proofs.OpeningLemmas.{nothing_long, none_runs_long, some_long, prologue_sized}
use Rattle.code_emit.proofs.prologue.prologue_size.Goals as goal

pub returns-then-size-eq0 : goal.returns-then-size-eq0
returns-then-size-eq0 g c =
    let y = g.U.NamedUnit.layout c.args.unit.now in
    let u = g.U.NamedUnit.number c.args.unit.now in
    sym (nothing_long (first_code y u) (runnable (y.lines u)) (sym c.in_ok-size.ensures ∙ c.if-size-eq0.true))

pub returns-then-number-statements : goal.returns-then-number-statements
returns-then-number-statements g c =
    let y = g.U.NamedUnit.layout c.args.unit.now in
    let u = g.U.NamedUnit.number c.args.unit.now in
    sym (none_runs_long c.statements-statements.result.now (y.lines u) c.first_executed-number.result (first_code y u) c.statements-statements.ensures c.first_executed-number.ensures c.if-number-statements.true)

pub returns : goal.returns
returns g c =
    let y = g.U.NamedUnit.layout c.args.unit.now in
    let u = g.U.NamedUnit.number c.args.unit.now in
    prologue_sized c.plus.result (first_code y u) (runnable (y.lines u)) c.in_ok-size.size c.in_ok-size.ensures
    (some_long c.statements-statements.result.now (y.lines u) c.first_executed-number.result (first_code y u) c.statements-statements.ensures c.first_executed-number.ensures c.if-number-statements.false (omega arith)) c.plus.ensures
