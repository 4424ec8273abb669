-- The faults of a text at their places.
use Rattle.std.specs.Prelude.{ℕ}
use Rattle.ground.specs.declared.fault.Fault.{Fault}
use Rattle.ground.specs.declared.fault.FaultKind.{FaultKind}
use Rattle.ground.specs.declared.fault.FaultKind.TheVariants.{Limit}
use Rattle.ground.specs.declared.place.Place.{Place}

-- a fault of this kind, which is no limit's
abbrev pub fault_at : Place → FaultKind → Fault
fault_at place kind = record { kind = kind; place = place; number = 0 }

-- the limit of this number is passed
abbrev pub limit_at : Place → ℕ → Fault
limit_at place number = record { kind = Limit; place = place; number = number }
