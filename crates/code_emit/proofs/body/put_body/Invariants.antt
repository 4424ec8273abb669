-- The statements before have their code, and the others end where the unit does.
use Rattle.std.proofs.Common.{◌≡◌, ◌+◌, ◌++◌, length, drop}
use Rattle.f66_tree.specs.Views.{lines_of}
use Rattle.stack_code.specs.Views.{code_of}
use Rattle.code_gen.specs.Statements.{body_code, body_size, stop}
use Rattle.code_emit.proofs.body.put_body.Given as goal

abbrev pub invariant-loop-statement : goal.invariant-loop-statement
invariant-loop-statement g l =
    let y = g.U.NamedUnit.layout l.unit in
    let u = g.U.NamedUnit.number l.unit in
    record {
      counted : l.behind ≡ l.statement-index;
      ends : length l.ops.items + body_size y u (lines_of (drop l.statement-index l.statements)) ≡ stop y u;
      coded : code_of l.ops.items ++ body_code y u (lines_of (drop l.statement-index l.statements)) ≡ code_of l.initial.ops.items ++ body_code y u (lines_of l.statements);
    }
