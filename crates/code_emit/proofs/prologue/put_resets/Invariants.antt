-- The statements before are not in progress.
use Rattle.std.proofs.Common.{◌≡◌, ◌++◌, drop}
use Rattle.f66_tree.specs.Views.{lines_of}
use Rattle.stack_code.specs.Views.{code_of}
use Rattle.code_gen.specs.Statements.{reset_code}
use Rattle.code_emit.proofs.prologue.put_resets.Given as goal

abbrev pub invariant-loop-statement : goal.invariant-loop-statement
invariant-loop-statement g l =
    let y = g.U.NamedUnit.layout l.unit in
    let u = g.U.NamedUnit.number l.unit in
    record {
      counted : l.behind ≡ l.statement-index;
      coded : code_of l.ops.items ++ reset_code y u (lines_of (drop l.statement-index l.statements)) ≡ code_of l.initial.ops.items ++ reset_code y u (lines_of l.statements);
    }
