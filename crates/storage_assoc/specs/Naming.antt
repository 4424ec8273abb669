-- What a checked unit gives of its names, and what a list of its blocks and names is to show to be their table.
use Rattle.std.specs.Prelude.{◌≡◌, ◌<◌, ◌≤◌, ◌^◌, ℕ, zero, suc, true, List, length, slice_index, Option, None, Some, ⊤}
use Rattle.std.specs.List.{All}
use Rattle.f66_tree.specs.Syntax.{Text, Formula, Ref, Item, Par, Act, Common, Equivalence, Routine}
use Rattle.f66_tree.specs.Units.{sizes_of}
use Rattle.f66_program.specs.Mentions.{context_of, has_places}
use Rattle.f66_program.specs.Association.{Row, Own, Block, size_in}
use Rattle.f66_program.specs.Linking.{unit_names_block}
use Rattle.storage_assoc.specs.Indexing.{row_at}
use Rattle.storage_assoc.specs.Listings.{name_at}
use Rattle.storage_assoc.specs.Lists.{block_by, row_by}
use Rattle.storage_assoc.specs.Groups.{dims_by}
use Rattle.storage_assoc.specs.Tables.{IsTableOf}

abbrev pub IsMemberReady : Routine → Formula → Type 0
IsMemberReady r (Ref x) = has_places r x ≡ true
IsMemberReady r (Item x es) = has_places r x ≡ true
IsMemberReady r _ = ⊤

abbrev pub IsActReady : Routine → Act → Type 0
IsActReady r (Common areas) = All (λ a. All (λ d. has_places r d.name ≡ true) a.list) areas
IsActReady r (Equivalence groups) = All (All (IsMemberReady r)) groups
IsActReady r _ = ⊤

-- what a checked unit gives: what stands in COMMON or EQUIVALENCE has places, since it is no dummy and no function; and no name has
-- more than 32,767
pub record IsReady (r : Routine) : Type 0 where
  pub tied : All (λ s. IsActReady r s.act) r.lines
  pub small : (x : Text) → has_places r x ≡ true → size_in (context_of r) x < 2 ^ 16

abbrev pub HasBlocks : List Row → (Text → Option ℕ) → Act → Type 0
HasBlocks rows blocks (Common areas) = All (λ a. row_at rows (block_by blocks a.name) ≡ Block a.name) areas
HasBlocks rows blocks _ = ⊤

-- first the blocks, then the names that have places, each once, with their sizes
pub record AreListed (r : Routine) (find blocks : Text → Option ℕ) (dims : Text → Option (List Par)) (sizes : List ℕ) (count : ℕ) (rows : List Row) : Type 0 where
  pub many : length sizes ≡ length rows
  pub some : 0 < count
  pub few : count ≤ length rows
  pub bounded : length sizes < 2 ^ 31
  pub small : All (λ n. n < 2 ^ 16) sizes
  pub blocks_inside : (b : Option Text) → block_by blocks b < count
  pub block : (i : ℕ) → i < count → (b : Option Text) × (row_at rows i ≡ Block b) × (block_by blocks b ≡ i) × (slice_index sizes i ≡ 0)
  pub all_blocks : All (λ s. HasBlocks rows blocks s.act) r.lines
  pub name : (i : ℕ) → count ≤ i → i < length rows → (x : Text) × (row_at rows i ≡ Own 0 x) × (find x ≡ Some i)
  pub row : (x : Text) (i : ℕ) → find x ≡ Some i → (i < length rows) × (row_at rows i ≡ Own 0 x) × (has_places r x ≡ true)
  pub size : (x : Text) (i : ℕ) → find x ≡ Some i → size_in (context_of r) x ≡ slice_index sizes i
  pub shape : (x : Text) → has_places r x ≡ true → sizes_of x (context_of r).notes ≡ dims_by dims x
  pub names : (x : Text) → has_places r x ≡ true → (i : ℕ) × (find x ≡ Some i)

-- behind blank common the blocks have these labels, each of which the unit names
pub record AreLabelled (r : Routine) (labels : List Text) (count : ℕ) (rows : List Row) : Type 0 where
  pub many : count ≡ suc (length labels)
  pub blank : row_at rows 0 ≡ Block None
  pub each : (k : ℕ) → k < length labels → row_at rows (suc k) ≡ Block (Some (name_at labels k))
  pub named : (k : ℕ) → k < length labels → unit_names_block (Some (name_at labels k)) r ≡ true

abbrev pub AreListedBy : Routine → (Text → Option ℕ) → (Text → Option ℕ) → (Text → Option (List Par)) → List ℕ → ℕ → List Text → Type 0
AreListedBy r find blocks dims sizes count labels = (rows : List Row) × AreListed r find blocks dims sizes count rows × AreLabelled r labels count rows

abbrev pub index_by : (Text → Option ℕ) → (Text → Option ℕ) → Row → ℕ
index_by find blocks (Own zero x) = row_by find x
index_by find blocks (Own (suc u) x) = 0
index_by find blocks (Block b) = block_by blocks b

-- such a list of a unit that is ready is its table
abbrev pub ListsServe : Type 0
ListsServe =
    (r : Routine) (find blocks : Text → Option ℕ) (dims : Text → Option (List Par)) (sizes : List ℕ) (count : ℕ) (rows : List Row) → IsReady r →
    AreListed r find blocks dims sizes count rows → IsTableOf r find blocks dims sizes count
