-- Those before have at most so many.
use Rattle.std.proofs.Common.{◌≡◌, All, max, map, drop}
use Rattle.code_gen.specs.Layout.{Layout}
use Rattle.code_validity.specs.Valid.{storage_size}
use Rattle.code_layout.proofs.ordered.storage_size.Given as goal

abbrev pub invariant-loop-unit : goal.invariant-loop-unit
invariant-loop-unit g l = (y : Layout) → All (λ v. g.U.NamedUnit.layout v ≡ y) l.units → max l.size (storage_size y (map g.U.NamedUnit.number (drop l.unit-index l.units))) ≡ storage_size y (map g.U.NamedUnit.number l.units)
