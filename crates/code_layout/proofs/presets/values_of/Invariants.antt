-- Those before have their values.
use Rattle.std.proofs.Common.{◌≡◌, map, take}
use Rattle.code_emit.specs.Names.{preset_in}
use Rattle.code_layout.specs.Presets.{pair_in}
use Rattle.code_layout.proofs.presets.values_of.Given as goal

abbrev pub invariant-loop-pair : goal.invariant-loop-pair
invariant-loop-pair l = map preset_in l.values.items ≡ map pair_in (take l.pair-index l.pairs)
