-- The presets before are counted.
use Rattle.std.proofs.Common.{◌≡◌, ◌+◌, drop}
use Rattle.efl_scoped.specs.Told.{capped}
use Rattle.efl_initial_values.proofs.CountLemmas.{counted_of}
use Rattle.efl_initial_values.proofs.counts.count_presets.Given as goal

abbrev pub invariant-loop-preset : goal.invariant-loop-preset
invariant-loop-preset l = capped (l.count + counted_of (drop l.preset-index l.presets)) ≡ capped (counted_of l.presets)
