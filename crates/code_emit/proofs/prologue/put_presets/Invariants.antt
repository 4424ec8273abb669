-- Those before are stored.
use Rattle.std.proofs.Common.{◌≡◌, ◌++◌, map, drop}
use Rattle.stack_code.specs.Views.{code_of}
use Rattle.code_gen.specs.Statements.{preset_code}
use Rattle.code_emit.specs.Names.{preset_in}
use Rattle.code_emit.proofs.prologue.put_presets.Given as goal

abbrev pub invariant-loop-preset : goal.invariant-loop-preset
invariant-loop-preset l = code_of l.ops.items ++ preset_code (map preset_in (drop l.preset-index l.presets)) ≡ code_of l.initial.ops.items ++ preset_code (map preset_in l.presets)
