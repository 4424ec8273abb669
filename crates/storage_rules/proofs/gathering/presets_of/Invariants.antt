-- The units before have given their places.
use Rattle.std.proofs.Common.{◌≡◌, ◌++◌, map, drop}
use Rattle.f66_tree.specs.Views.{routine_of}
use Rattle.f66_program.specs.Initial.{presets_from}
use Rattle.storage_rules.specs.Presets.{preset_seen}
use Rattle.storage_rules.proofs.gathering.presets_of.Given as goal

abbrev pub invariant-loop-number : goal.invariant-loop-number
invariant-loop-number l = map preset_seen l.presets.items ++ presets_from l.number (map routine_of (drop l.number l.units)) ≡ presets_from 0 (map routine_of l.units)
