-- The value is added as often as turns have gone.
use Rattle.std.proofs.Common.{◌≡◌, ◌++◌, map, replicate}
use Rattle.storage_rules.specs.Presets.{content_seen}
use Rattle.storage_rules.proofs.constants.add_times.Given as goal

abbrev pub invariant-loop-time : goal.invariant-loop-time
invariant-loop-time l = map content_seen l.values.items ≡ map content_seen l.initial.values.items ++ replicate l._time (content_seen l.value)
