-- Units that Ratfor units became link where what these say does.
use Rattle.std.specs.Prelude.{◌≡◌, ◌≤◌, ◌+◌, ℕ, List, length, map, None}
use Rattle.std.specs.List.{All, AllByRecursion, AllZip}
use Rattle.ground.specs.declared.place.Place.{Place}
use Rattle.f66_tree.specs.Syntax.{Routine}
use Rattle.f66_program.specs.Association.{IsBadUnit, HasUnits}
use Rattle.f66_program.specs.Linking.{IsWhole}
use Rattle.rat_tree.specs.Syntax.{RatRoutine}
use Rattle.rat_check.specs.FirstFault.{unit_fault}
use Rattle.rat_check.specs.Parts.{unit_parts}
use Rattle.rat_said.specs.Said.{said_routine}
use Rattle.rat_linked.specs.Made.{IsMadeOf, IsProper}

-- none is bad by itself
abbrev pub MadeAreWell : Type 0
MadeAreWell = (us : List RatRoutine) (rs : List Routine) → AllZip IsMadeOf us rs → All (λ r. ¬ IsBadUnit r) (map said_routine us) → All (λ r. ¬ IsBadUnit r) rs

-- and they are whole, where there is room for a spare variable of each
abbrev pub MadeAreWhole : Type 0
MadeAreWhole =
    (us : List RatRoutine) (rs : List Routine) (finish : Place) (total : ℕ) → AllZip IsMadeOf us rs → All (λ r. ¬ IsBadUnit r) (map said_routine us) →
    HasUnits (map said_routine us) total → total + length us ≤ 2000000 → IsWhole (record { units = map said_routine us; finish = finish }) →
    IsWhole (record { units = rs; finish = finish })

-- the parts of a unit without a fault are proper, as is asked of units that became others
abbrev pub CleanIsProper : Type 0
CleanIsProper = (u : RatRoutine) → unit_fault u ≡ None → AllByRecursion (IsProper u.header) (unit_parts u.body)
