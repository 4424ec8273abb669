-- The links are bad up to the higher step, and not up to any below the lower one.
use Rattle.std.proofs.Common.{◌<◌, ◌≤◌, ◌-◌, ℕ, length, take, slice_index}
use Rattle.offset_classes.specs.Links.{IsBad}
use Rattle.offset_classes.proofs.first_bad.first_bad_step.Given as goal

abbrev pub invariant-loop-low : goal.invariant-loop-low
invariant-loop-low l = record {
  order : l.low ≤ l.high;
  inside : l.high < length l.counts;
  bad : IsBad l.anchors (take (slice_index l.counts l.high) l.links);
  earlier : (i : ℕ) → i < l.low → ¬ IsBad l.anchors (take (slice_index l.counts i) l.links);
}

abbrev pub decreases-loop-low : goal.decreases-loop-low
decreases-loop-low l = l.high - l.low
