-- The numbers of a program's storage units, as they are in memory.
use Rattle.std.specs.Prelude.{◌≡◌, ◌<◌, ◌+◌, ℕ, true, false, List, slice_index, Option, Some, option_map, MatchOption}
use Rattle.std.specs.List.{slice_get}
use Rattle.f66_tree.specs.Syntax.{Text, Routine}
use Rattle.f66_program.specs.Mentions.{context_of, has_places}
use Rattle.f66_program.specs.Association.{size_in}
use Rattle.storage_assoc.specs.Numbering.{number_by}
use Rattle.program_storage.specs.declared.program.ProgramStorage.{ProgramStorage}
use Rattle.program_storage.specs.declared.spot.Spot.{Spot}
use Rattle.program_storage.specs.Parts.{find_in}

-- the number of a place of a name of a unit, where it has one
abbrev pub number_in_program : ProgramStorage → ℕ → Text → ℕ → Option ℕ
number_in_program p u x o = number_by (find_in p.units.items) p.sizes.items p.firsts.items u x o

-- where a name of a unit has its places, by rows with their sizes and first numbers
abbrev pub spot_by : (ℕ → Text → Option ℕ) → List ℕ → List ℕ → ℕ → Text → Option Spot
spot_by find sizes firsts u x = option_map (λ i. record { first = slice_index firsts i; size = slice_index sizes i }) (find u x)

abbrev pub spot_in_program : ProgramStorage → ℕ → Text → Option Spot
spot_in_program p = spot_by (find_in p.units.items) p.sizes.items p.firsts.items

-- the places of a name have numbers that follow one another
abbrev pub IsSpotBy : (ℕ → Text → Option ℕ) → List ℕ → List ℕ → ℕ → Routine → Text → Spot → Type 0
IsSpotBy find sizes firsts u r x s =
    (has_places r x ≡ true) × (s.size ≡ size_in (context_of r) x) × ((o : ℕ) → o < s.size → number_by find sizes firsts u x o ≡ Some (s.first + o))

-- each name that has places in a unit has them somewhere, and no other name does
abbrev pub HaveSpotsBy : List Routine → (ℕ → Text → Option ℕ) → List ℕ → List ℕ → Type 0
HaveSpotsBy rs find sizes firsts =
    (u : ℕ) (r : Routine) (x : Text) → slice_get rs u ≡ Some r → MatchOption (spot_by find sizes firsts u x) (has_places r x ≡ false) (IsSpotBy find sizes firsts u r x)

abbrev pub HaveSpots : List Routine → ProgramStorage → Type 0
HaveSpots rs p = HaveSpotsBy rs (find_in p.units.items) p.sizes.items p.firsts.items
