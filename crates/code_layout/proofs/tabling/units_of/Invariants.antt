-- The units before have their tables.
use Rattle.std.proofs.Common.{◌≡◌, map, take}
use Rattle.code_layout.proofs.tabling.units_of.Given as goal

abbrev pub invariant-loop-unit : goal.invariant-loop-unit
invariant-loop-unit l = map (λ t. t.unit.now) l.units.items ≡ take l.unit-index l.all
