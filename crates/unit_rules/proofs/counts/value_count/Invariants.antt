-- The counts of the values before, each below 2 to the power of 32.
use Rattle.std.proofs.Common.{◌≡◌, ◌*◌, ◌≤◌, map, take}
use Rattle.std.specs.Prelude.{sum_by}
use Rattle.f66_tree.specs.Views.{initial_of}
use Rattle.unit_rules.proofs.counts.value_count.Given as goal

abbrev pub invariant-loop-value : goal.invariant-loop-value
invariant-loop-value l = (l.total ≡ sum_by (λ v. v.0) (map initial_of (take l.value-index l.values))) × (l.total ≤ l.value-index * 4294967295)
