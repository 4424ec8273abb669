-- Those before are not executed.
use Rattle.std.proofs.Common.{◌≡◌, drop}
use Rattle.f66_tree.specs.Execution.{runnable}
use Rattle.f66_tree.specs.Views.{lines_of}
use Rattle.code_emit.proofs.prologue.first_executed.Given as goal

abbrev pub invariant-loop-statement : goal.invariant-loop-statement
invariant-loop-statement l = record {
  counted : l.number ≡ l.statement-index;
  skipped : runnable (lines_of (drop l.statement-index l.statements)) ≡ runnable (lines_of l.statements);
}
