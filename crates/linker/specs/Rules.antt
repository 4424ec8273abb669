-- One rule of linking, and the first part of a program that breaks it.
use Rattle.std.specs.Prelude.{◌≡◌, List, map, Some}
use Rattle.ground.specs.declared.place.Place.{Place}
use Rattle.ground.specs.declared.fault.Fault.{Fault}
use Rattle.ground.specs.declared.fault.FaultKind.{FaultKind}
use Rattle.f66_tree.specs.declared.unit.Unit.{Unit}
use Rattle.f66_tree.specs.Views.{routine_of}
use Rattle.f66_program.specs.Linking.{Program, Part, IsEarlier, Breaks, place_in, limit_number}

abbrev pub program_of : List Unit → Place → Program
program_of units finish = record { units = map routine_of units; finish = finish }

-- no part breaks the rule
abbrev pub IsKept : FaultKind → Program → Type 0
IsKept k p = (q : Part) → ¬ Breaks k p q

-- the fault stands at the first part that breaks the rule
pub record IsFirstBroken (k : FaultKind) (p : Program) (f : Fault) : Type 0 where
  pub kind : f.kind ≡ k
  pub number : f.number ≡ limit_number k
  pub part : Part
  pub broken : Breaks k p part
  pub earlier : (q : Part) → IsEarlier q part → ¬ Breaks k p q
  pub place : place_in p part ≡ Some f.place
