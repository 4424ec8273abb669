-- One statement more.
use Rattle.std.proofs.Common.{length}
use Rattle.f66_tree.specs.Views.{lines_of}
use Rattle.code_gen.specs.Statements.{reset_code}
use Rattle.code_emit.proofs.OpeningLemmas.{resets_counted}
use Rattle.code_emit.proofs.prologue.resets_size.Goals as goal

pub loop-statement-preserved : goal.loop-statement-preserved
loop-statement-preserved g c =
    let y = g.U.NamedUnit.layout c.args.unit.now in
    let u = g.U.NamedUnit.number c.args.unit.now in
    let l = c.loop-statement in
    let all = c.statements-statements.result.now in
    resets_counted y u all l.statement-index c.statement-item.result l.sum c.reset_size-size.result c.in_ok-sum.sum (length (reset_code y u (lines_of all))) c.loop-statement-test.true c.statement-item.is (c.reset_size-size.ensures y u) c.in_ok-sum.ensures l.invariant
