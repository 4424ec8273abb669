-- Those left say how the whole ends.
use Rattle.std.proofs.Common.{◌≡◌, drop, false}
use Rattle.f66_tree.specs.Views.{lines_of}
use Rattle.rat_lower.specs.Code.{ends_so}
use Rattle.rat_lower.proofs.unit.ends_so.Given as goal

abbrev pub invariant-loop-statement : goal.invariant-loop-statement
invariant-loop-statement l = ends_so l.ends (lines_of (drop l.statement-index l.code)) ≡ ends_so false (lines_of l.code)
