-- What `associate` answers of a unit: the numbers of its storage units, or that its association is bad, or that it has too many.
use Rattle.std.specs.Prelude.{◌≡◌, ◌<◌, ◌≤◌, ◌⊎◌, ℕ, zero, suc, [], ◌∷◌, Option, None, Some, option_map, ⊤}
use Rattle.std.specs.List.{slice_get}
use Rattle.ground.specs.declared.fault.Fault.{Fault}
use Rattle.ground.specs.declared.fault.FaultKind.TheVariants.{BadEquivalence, Limit}
use Rattle.ground.specs.declared.fault.Refusal.{Refusal}
use Rattle.ground.specs.declared.fault.Refusal.TheVariants.{Fault as AFault, Memory}
use Rattle.f66_tree.specs.Syntax.{Text, Routine}
use Rattle.f66_program.specs.Association.{IsBadUnit, IsFirstBad, IsNumbering, HasUnits}
use Rattle.f66_program.specs.Linking.{first_of, place_of_part}

abbrev pub most_units : ℕ
most_units = 2000000

-- the unit has the number 0; there are no others
abbrev pub number_in_unit : (Text → ℕ → Option ℕ) → ℕ → Text → ℕ → Option ℕ
number_in_unit number zero x o = number x o
number_in_unit number (suc u) x o = None

-- the numbers of a unit's places, of which the unit has the number 0
pub record IsAssociated (r : Routine) (number : Text → ℕ → Option ℕ) (total : ℕ) : Type 0 where
  pub well : ¬ IsBadUnit r
  pub numbering : IsNumbering (r ∷ []) (number_in_unit number) total
  pub few : total ≤ most_units

-- the association is bad, at the first statement up to which it is
pub record IsBadFault (r : Routine) (f : Fault) : Type 0 where
  pub kind : f.kind ≡ BadEquivalence
  pub number : f.number ≡ 0
  pub line : ℕ
  pub first : IsFirstBad r line
  pub place : option_map (λ s. s.place) (slice_get r.lines line) ≡ Some f.place

-- it is not, but there are too many storage units
pub record IsLimitFault (r : Routine) (f : Fault) : Type 0 where
  pub kind : f.kind ≡ Limit
  pub number : f.number ≡ 8
  pub well : ¬ IsBadUnit r
  pub total : ℕ
  pub has : HasUnits (r ∷ []) total
  pub large : most_units < total
  pub place : place_of_part r (first_of r) ≡ Some f.place

abbrev pub IsRightRefusal : Routine → Refusal → Type 0
IsRightRefusal r (AFault f) = IsBadFault r f ⊎ IsLimitFault r f
IsRightRefusal r Memory = ⊤
