-- The links that the lists of common blocks give.
use Rattle.std.specs.Prelude.{◌≡◌, ℕ, List, map, ◌++◌, slice_index, Option, Some, None, unwrap_or}
use Rattle.std.specs.List.{All}
use Rattle.f66_tree.specs.Syntax.{Text, Declared, Area}
use Rattle.f66_tree.specs.Units.{Context}
use Rattle.f66_program.specs.Association.{Row, Own, Block, Filled, size_in, list_ties, list_end, area_ties, areas_filled}
use Rattle.offset_classes.specs.declared.link.Link.{Link}
use Rattle.storage_assoc.specs.Indexing.{link_by, IsListed}

-- the row of a name, by a table
abbrev pub row_by : (Text → Option ℕ) → Text → ℕ
row_by find x = unwrap_or (find x) 0

-- the table has the row of this name, and the sizes how many places it has
abbrev pub IsTabled : ℕ → Context → (Row → ℕ) → (Text → Option ℕ) → List ℕ → Declared → Type 0
IsTabled u c index find sizes d = (index (Own u d.name) ≡ row_by find d.name) × (size_in c d.name ≡ slice_index sizes (row_by find d.name))

-- whatever unit the tables are of, the links are the ties of the list
abbrev pub ListLinked : (Text → Option ℕ) → List ℕ → ℕ → ℕ → List Declared → List Link → List Link → ℕ → Type 0
ListLinked find sizes block start ds old new end =
    (u : ℕ) (c : Context) (b : Option Text) (index : Row → ℕ) → All (IsTabled u c index find sizes) ds → index (Block b) ≡ block →
    (new ≡ old ++ map (link_by index) (list_ties u c b start ds)) × (end ≡ list_end c start ds)

-- the row of a block, by a table; blank common has the first one
abbrev pub block_by : (Text → Option ℕ) → Option Text → ℕ
block_by blocks None = 0
block_by blocks (Some x) = row_by blocks x

-- the tables have the rows of a block and of the names of its list
abbrev pub IsAreaTabled : ℕ → Context → List Row → (Row → ℕ) → (Text → Option ℕ) → (Text → Option ℕ) → List ℕ → Area → Type 0
IsAreaTabled u c rows index find blocks sizes a =
    IsListed rows index (Block a.name) × (index (Block a.name) ≡ block_by blocks a.name) × All (IsTabled u c index find sizes) a.list

-- how far each block is filled, by its row
abbrev pub AreFilled : List Row → (Row → ℕ) → List ℕ → Filled → Type 0
AreFilled rows index fills f = (q : Option Text) → IsListed rows index (Block q) → slice_index fills (index (Block q)) ≡ f q

-- whatever unit the tables are of, the links are the ties of the blocks' lists, which begin where the blocks are filled to
abbrev pub AreasLinked : (Text → Option ℕ) → (Text → Option ℕ) → List ℕ → List Area → List ℕ → List ℕ → List Link → List Link → Type 0
AreasLinked find blocks sizes areas fills fills' old new =
    (u : ℕ) (c : Context) (rows : List Row) (index : Row → ℕ) (f : Filled) → All (IsAreaTabled u c rows index find blocks sizes) areas → AreFilled rows index fills f →
    (new ≡ old ++ map (link_by index) (area_ties u c f areas)) × AreFilled rows index fills' (areas_filled c f areas)
