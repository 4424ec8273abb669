-- No part before gives a name once more.
use Rattle.std.proofs.Common.{◌≡◌, ◌≤◌, ℕ, false}
use Rattle.f66_tree.specs.Views.{routine_of}
use Rattle.linker.specs.CallViews.{units_in}
use Rattle.linker.specs.Repeats.{part_repeats}
use Rattle.linker.proofs.duplicates.first_in_unit.Given as goal

abbrev pub invariant-loop-statement : goal.invariant-loop-statement
invariant-loop-statement l = (i : ℕ) → i ≤ l.statement-index → part_repeats (units_in l.calls) l.fn.number (routine_of l.fn.unit) i ≡ false
