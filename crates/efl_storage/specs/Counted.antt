-- What is known behind parts of a program: which variables were met, and how many places of each procedure count.
use Rattle.std.specs.Prelude.{◌≡◌, ℕ, ◌+◌, nat_eq, nat_lt, min, List, [], ◌∷◌, flat_map, Option, Some, None, option_map, unwrap_or, if◌then◌else◌}
use Rattle.std.specs.List.{slice_get}
use Rattle.ground.specs.declared.fault.Fault.{Fault}
use Rattle.efl_tree.specs.Syntax.{EflProcedure}
use Rattle.efl_scope.specs.Parts.{Part}
use Rattle.efl_scope.specs.Marks.{Located, distinct, located_at}
use Rattle.efl_types.specs.Storage.{counted, counts_in, unit_places, limit_at}
use Rattle.efl_types.specs.Whole.{begins_at}
use Rattle.efl_variables.specs.declared.variables.Variables.{Variables}
use Rattle.efl_variables.specs.Numbered.{AreVariables}
use Rattle.efl_storage.specs.declared.storage.Storage.{Storage}

-- more places than a program may have count as one more
abbrev pub up_to_limit : ℕ → ℕ
up_to_limit n = min n 1000001

-- Of these variables one behind the other: each is known once, and of each procedure its places.
pub record Counts (us : List EflProcedure) (xs : List Located) (known : Variables) (sums : List ℕ) : Type 0 where
  pub variables : AreVariables (distinct [] xs) known
  pub places : (n : ℕ) (u : EflProcedure) → slice_get us n ≡ Some u → slice_get sums n ≡ Some (up_to_limit (unit_places us (distinct [] xs) n u))

abbrev pub CountsAll : List EflProcedure → List Located → Storage → Type 0
CountsAll us xs s = Counts us xs s.variables s.places.items

-- behind these parts
abbrev pub Counted : List EflProcedure → List Part → Storage → Type 0
Counted us vs s = CountsAll us (flat_map (located_at us) vs) s

-- so many places of a variable count in its procedure
abbrev pub value_of : List EflProcedure → ℕ → EflProcedure → Located → ℕ
value_of us n u x = if counts_in us n u x then counted x.variable.kind else 0

abbrev pub AreItsPlaces : List EflProcedure → Located → ℕ → Type 0
AreItsPlaces us x n = (u : EflProcedure) → slice_get us x.unit ≡ Some u → n ≡ value_of us x.unit u x

-- places more of one procedure
abbrev pub AddsPlaces : List ℕ → ℕ → ℕ → List ℕ → Type 0
AddsPlaces old unit many new = (n : ℕ) → slice_get new n ≡ (if nat_eq n unit then option_map (λ s. up_to_limit (s + many)) (slice_get old n) else slice_get old n)

-- by the places of each procedure: where the n-th procedure or one behind it passes the limit, with so many places before
abbrev pub passed_by : List ℕ → ℕ → ℕ → List EflProcedure → Option Fault
passed_by sums n before [] = None
passed_by sums n before (u ∷ us) = let sum = before + unwrap_or (slice_get sums n) 0 in
    if nat_lt 1000000 sum then Some (limit_at (begins_at u.body u.finish)) else passed_by sums (n + 1) sum us
