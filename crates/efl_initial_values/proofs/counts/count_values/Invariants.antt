-- The values before are counted.
use Rattle.std.proofs.Common.{◌≡◌, ◌+◌, drop}
use Rattle.efl_scoped.specs.Told.{capped}
use Rattle.efl_initial_values.proofs.CountLemmas.{counted}
use Rattle.efl_initial_values.proofs.counts.count_values.Given as goal

abbrev pub invariant-loop-value : goal.invariant-loop-value
invariant-loop-value l = capped (l.count + counted (drop l.value-index l.values)) ≡ capped (counted l.values)
