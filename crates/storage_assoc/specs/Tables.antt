-- The table of the names of a unit.
use Rattle.std.specs.Prelude.{◌≡◌, ◌<◌, ◌≤◌, ◌^◌, ℕ, zero, suc, List, [], ◌∷◌, length, Option, None}
use Rattle.std.specs.List.{All, Contains}
use Rattle.f66_tree.specs.Syntax.{Text, Par, Routine}
use Rattle.f66_program.specs.Mentions.{context_of}
use Rattle.f66_program.specs.Association.{Row, Block, Tie, unit_ties}
use Rattle.storage_assoc.specs.Indexing.{row_at, IsListed}
use Rattle.storage_assoc.specs.Numbering.{AreSized}
use Rattle.storage_assoc.specs.Lists.{block_by, row_by}
use Rattle.storage_assoc.specs.Walks.{IsActTabled}

-- the unit has the number 0; there are no others
abbrev pub rows_in_unit : (Text → Option ℕ) → ℕ → Text → Option ℕ
rows_in_unit find zero x = find x
rows_in_unit find (suc u) x = None

-- Rows with numbers: first the common blocks, then the names that have places, and how many places each has.
pub record IsTable (r : Routine) (find blocks : Text → Option ℕ) (dims : Text → Option (List Par)) (sizes : List ℕ) (count : ℕ) (rows : List Row) (index : Row → ℕ) : Type 0 where
  pub numbered : (i : ℕ) → i < length rows → index (row_at rows i) ≡ i
  pub few : count ≤ length rows
  pub first : (i : ℕ) → i < count → (b : Option Text) × (row_at rows i ≡ Block b)
  pub blocks_first : (b : Option Text) → IsListed rows index (Block b) → index (Block b) < count
  pub from_in : (t : Tie) → Contains (unit_ties 0 r) t → IsListed rows index t.from
  pub to_in : (t : Tie) → Contains (unit_ties 0 r) t → IsListed rows index t.to
  pub tabled : All (λ s. IsActTabled 0 (context_of r) rows index find blocks dims sizes s.act) r.lines
  pub sized : AreSized (r ∷ []) rows (rows_in_unit find) sizes
  pub inside : (x : Text) → row_by find x < length sizes
  pub blocks_inside : (b : Option Text) → block_by blocks b < count
  pub small : All (λ n. n < 2 ^ 16) sizes
  pub bounded : length sizes < 2 ^ 31

abbrev pub IsTableOf : Routine → (Text → Option ℕ) → (Text → Option ℕ) → (Text → Option (List Par)) → List ℕ → ℕ → Type 0
IsTableOf r find blocks dims sizes count = (rows : List Row) × (index : Row → ℕ) × IsTable r find blocks dims sizes count rows index
