-- The rows of a whole program: the common blocks of all units, each once, then the names with places of the first unit, of the second,
-- and so on.
use Rattle.std.specs.Prelude.{◌≡◌, ◌<◌, ◌≤◌, ◌^◌, ℕ, true, List, length, map, slice_index, Option, None, Some, ⊤}
use Rattle.std.specs.List.{All, Contains, slice_get}
use Rattle.f66_tree.specs.Syntax.{Text, Routine}
use Rattle.f66_program.specs.Mentions.{context_of, has_places}
use Rattle.f66_program.specs.Association.{Row, Own, Block, Tie, size_in, ties_of}
use Rattle.offset_classes.specs.declared.link.Link.{Link}
use Rattle.storage_assoc.specs.Indexing.{row_at, link_by, IsListed}
use Rattle.storage_assoc.specs.Lists.{block_by, row_by}
use Rattle.storage_assoc.specs.Numbering.{AreSized}

-- the number of a row, by the tables of names and of blocks
abbrev pub index_in : (ℕ → Text → Option ℕ) → (Text → Option ℕ) → Row → ℕ
index_in find blocks (Own u x) = row_by (find u) x
index_in find blocks (Block b) = block_by blocks b

-- a row of one of the first so many units, or a block
abbrev pub IsBelow : ℕ → Row → Type 0
IsBelow n (Own u x) = u < n
IsBelow n (Block b) = ⊤

-- The first rows are the blocks, and the others the names with places of these units, each once, with their sizes.
pub record AreRowsOf (rs : List Routine) (find : ℕ → Text → Option ℕ) (blocks : Text → Option ℕ) (sizes : List ℕ) (count : ℕ) (rows : List Row) : Type 0 where
  pub numbered : (i : ℕ) → i < length rows → index_in find blocks (row_at rows i) ≡ i
  pub below : (i : ℕ) → i < length rows → IsBelow (length rs) (row_at rows i)
  pub few : count ≤ length rows
  pub first : (i : ℕ) → i < count → (b : Option Text) × (row_at rows i ≡ Block b)
  pub blocks_inside : (b : Option Text) → block_by blocks b < count
  pub blank : row_at rows 0 ≡ Block None
  pub labelled : (q : Text) (i : ℕ) → blocks q ≡ Some i → row_at rows i ≡ Block (Some q)
  pub small : All (λ n. n < 2 ^ 16) sizes
  pub sized : AreSized rs rows find sizes
  pub spot : (u : ℕ) (x : Text) (i : ℕ) → find u x ≡ Some i → (r : Routine) × (slice_get rs u ≡ Some r) × (has_places r x ≡ true) × (size_in (context_of r) x ≡ slice_index sizes i)
  pub all : (u : ℕ) (r : Routine) (x : Text) → slice_get rs u ≡ Some r → has_places r x ≡ true → (i : ℕ) × (find u x ≡ Some i)

-- the links are the ties of these units
pub record AreLinked (rs : List Routine) (find : ℕ → Text → Option ℕ) (blocks : Text → Option ℕ) (links : List Link) (rows : List Row) : Type 0 where
  pub links_are : links ≡ map (link_by (index_in find blocks)) (ties_of rs)
  pub from_in : (t : Tie) → Contains (ties_of rs) t → IsListed rows (index_in find blocks) t.from
  pub to_in : (t : Tie) → Contains (ties_of rs) t → IsListed rows (index_in find blocks) t.to
