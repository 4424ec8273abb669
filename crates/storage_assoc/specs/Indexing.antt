-- Rows of places by numbers: what ties say of rows, links say of their numbers.
use Rattle.std.specs.Prelude.{◌≡◌, ◌<◌, ◌≤◌, ℕ, List, length, map, slice_index_or, Option, None}
use Rattle.std.specs.List.{Contains}
use Rattle.f66_tree.specs.Syntax.{Text}
use Rattle.f66_program.specs.Association.{Row, Block, Tie}
use Rattle.offset_classes.specs.declared.link.Link.{Link}

abbrev pub no_row : Row
no_row = Block None

abbrev pub row_at : List Row → ℕ → Row
row_at rows i = slice_index_or rows i no_row

abbrev pub link_by : (Row → ℕ) → Tie → Link
link_by index t = record { from = index t.from; to = index t.to; by = t.by }

-- a row has a number, and is the row of that number
pub record IsListed (rows : List Row) (index : Row → ℕ) (a : Row) : Type 0 where
  pub inside : index a < length rows
  pub back : row_at rows (index a) ≡ a

-- The rows have these numbers, the first so many are the blocks, and the links are the ties.
pub record AreIndexed (ties : List Tie) (links : List Link) (rows : List Row) (index : Row → ℕ) (blocks : ℕ) : Type 0 where
  pub links_are : links ≡ map (link_by index) ties
  pub from_in : (t : Tie) → Contains ties t → IsListed rows index t.from
  pub to_in : (t : Tie) → Contains ties t → IsListed rows index t.to
  pub numbered : (i : ℕ) → i < length rows → index (row_at rows i) ≡ i
  pub few : blocks ≤ length rows
  pub first : (i : ℕ) → i < blocks → (b : Option Text) × (row_at rows i ≡ Block b)
  pub blocks_first : (b : Option Text) → IsListed rows index (Block b) → index (Block b) < blocks
