-- The numbers of a program's storage units, by rows that have numbers, sizes and first units.
use Rattle.std.specs.Prelude.{◌≡◌, ◌<◌, ℕ, ◌+◌, nat_lt, List, length, slice_index, Option, None, Some, if◌then◌else◌}
use Rattle.f66_tree.specs.Syntax.{Text, Routine}
use Rattle.f66_program.specs.Association.{Row, Own, IsReal}
use Rattle.storage_assoc.specs.Indexing.{row_at}

-- A name's row, and how many places each row has: as many as are really there, of a block none.
pub record AreSized (rs : List Routine) (rows : List Row) (find : ℕ → Text → Option ℕ) (sizes : List ℕ) : Type 0 where
  pub many : length sizes ≡ length rows
  pub finds : (u : ℕ) (x : Text) (i : ℕ) → find u x ≡ Some i → (i < length rows) × (row_at rows i ≡ Own u x)
  pub real : (u : ℕ) (x : Text) (o : ℕ) → IsReal rs u x o → (i : ℕ) × (find u x ≡ Some i) × (o < slice_index sizes i)
  pub only : (i o : ℕ) → i < length rows → o < slice_index sizes i → (u : ℕ) × (x : Text) × (row_at rows i ≡ Own u x) × IsReal rs u x o

-- the number of a place of a row, where it has one
abbrev pub number_in : List ℕ → List ℕ → ℕ → Option ℕ → Option ℕ
number_in sizes firsts o None = None
number_in sizes firsts o (Some i) = if nat_lt o (slice_index sizes i) then Some (slice_index firsts i + o) else None

abbrev pub number_by : (ℕ → Text → Option ℕ) → List ℕ → List ℕ → ℕ → Text → ℕ → Option ℕ
number_by find sizes firsts u x o = number_in sizes firsts o (find u x)
