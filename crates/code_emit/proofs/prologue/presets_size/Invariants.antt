-- Those before are counted.
use Rattle.std.proofs.Common.{◌≡◌, ◌+◌, length, map, drop}
use Rattle.code_gen.specs.Statements.{preset_code}
use Rattle.code_emit.specs.Names.{preset_in}
use Rattle.code_emit.proofs.prologue.presets_size.Given as goal

abbrev pub invariant-loop-preset : goal.invariant-loop-preset
invariant-loop-preset l = l.sum + length (preset_code (map preset_in (drop l._preset-index l.presets))) ≡ length (preset_code (map preset_in l.presets))
