-- Those before are counted.
use Rattle.std.proofs.Common.{◌≡◌, ◌+◌, ◌++◌, drop}
use Rattle.f66_tree.specs.Execution.{runnable}
use Rattle.f66_tree.specs.Views.{lines_of}
use Rattle.code_gen.specs.Statements.{body_size, first_code, prologue_size}
use Rattle.code_emit.specs.Places.{starts_from}
use Rattle.code_emit.proofs.places.places_of.Given as goal

abbrev pub invariant-loop-statement : goal.invariant-loop-statement
invariant-loop-statement g l =
    let y = g.U.NamedUnit.layout l.unit in
    let u = g.U.NamedUnit.number l.unit in
    let first = prologue_size (first_code y u) (runnable (y.lines u)) in
    record {
      started : l.starts.items ++ starts_from y u l.at (lines_of (drop l.statement-index l.statements)) ≡ starts_from y u first (lines_of l.statements);
      counted : l.at + body_size y u (lines_of (drop l.statement-index l.statements)) ≡ first + body_size y u (lines_of l.statements);
    }
