-- The places before have their numbers.
use Rattle.std.proofs.Common.{◌≡◌, Some, map, take}
use Rattle.program_storage.specs.Numbers.{number_in_program}
use Rattle.storage_rules.proofs.twice.numbers_of.Given as goal

abbrev pub invariant-loop-preset : goal.invariant-loop-preset
invariant-loop-preset l = map (λ p. number_in_program l.storage p.unit p.name.now p.at) (take l.preset-index l.presets) ≡ map (λ n. Some n) l.numbers.items
