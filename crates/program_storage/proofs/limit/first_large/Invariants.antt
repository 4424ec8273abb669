-- There are too many up to the higher unit, and not up to any below the lower one.
use Rattle.std.proofs.Common.{◌<◌, ◌≤◌, ◌-◌, ℕ, length, map}
use Rattle.f66_tree.specs.Views.{routine_of}
use Rattle.program_storage.specs.Limits.{IsLargeAt}
use Rattle.program_storage.proofs.limit.first_large.Given as goal

abbrev pub invariant-loop-low : goal.invariant-loop-low
invariant-loop-low l = record {
  order : l.low ≤ l.high;
  inside : l.high < length l.units;
  large : IsLargeAt l.most (map routine_of l.units) l.high;
  earlier : (i : ℕ) → i < l.low → ¬ IsLargeAt l.most (map routine_of l.units) i;
}

abbrev pub decreases-loop-low : goal.decreases-loop-low
decreases-loop-low l = l.high - l.low
