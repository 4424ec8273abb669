-- The marks made so far are sound, and none is lost; fewer nodes are unmarked after each pass.
use Rattle.std.proofs.Common.{◌≡◌, ℕ, length, count_by, not}
use Rattle.call_cycles.specs.Cycles.{AreSound, Keep}
use Rattle.call_cycles.proofs.marks.spread_all.Given as goal

abbrev pub invariant-loop : goal.invariant-loop
invariant-loop l = record {
  many : length l.marks ≡ length l.initial.marks;
  kept : Keep l.initial.marks l.marks;
  sound : (goal : ℕ) → AreSound l.edges goal l.initial.marks → AreSound l.edges goal l.marks;
}

abbrev pub decreases-loop : goal.decreases-loop
decreases-loop l = count_by not l.marks
