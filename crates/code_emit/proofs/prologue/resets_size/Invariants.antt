-- Those before are counted.
use Rattle.std.proofs.Common.{◌≡◌, ◌+◌, length, drop}
use Rattle.f66_tree.specs.Views.{lines_of}
use Rattle.code_gen.specs.Statements.{reset_code}
use Rattle.code_emit.proofs.prologue.resets_size.Given as goal

abbrev pub invariant-loop-statement : goal.invariant-loop-statement
invariant-loop-statement g l =
    let y = g.U.NamedUnit.layout l.unit in
    let u = g.U.NamedUnit.number l.unit in
    l.sum + length (reset_code y u (lines_of (drop l.statement-index l.statements))) ≡ length (reset_code y u (lines_of l.statements))
