-- The rows of a unit among those of its program.
use Rattle.std.specs.Prelude.{◌≡◌, ◌<◌, ◌+◌, ℕ, suc, List, length, slice_index, ◌++◌, map, Option}
use Rattle.f66_tree.specs.Syntax.{Text, Par, Line}
use Rattle.f66_program.specs.Association.{Row, Own, Block}
use Rattle.offset_classes.specs.declared.link.Link.{Link}
use Rattle.storage_assoc.specs.Listings.{name_at}
use Rattle.storage_assoc.specs.Lists.{row_by}
use Rattle.storage_assoc.specs.Walks.{LinesLinked}

-- a row of a unit by itself, as one of the unit with this number
abbrev pub in_unit : ℕ → Row → Row
in_unit u (Own v x) = Own u x
in_unit u (Block b) = Block b

-- of each row of a unit its number in the program: of blank common, of the blocks with these labels, and of so many names, which stand
-- one behind the other
pub record AreWhole (blocks : Text → Option ℕ) (labels : List Text) (base names : ℕ) (whole : List ℕ) : Type 0 where
  pub many : length whole ≡ suc (length labels) + names
  pub blank : slice_index whole 0 ≡ 0
  pub label : (k : ℕ) → k < length labels → slice_index whole (suc k) ≡ row_by blocks (name_at labels k)
  pub name : (k : ℕ) → k < names → slice_index whole (suc (length labels) + k) ≡ base + k

-- so many numbers are added, which count on from a first one
pub record AreCountedOn (old : List ℕ) (base names : ℕ) (new : List ℕ) : Type 0 where
  pub many : length new ≡ length old + names
  pub kept : (i : ℕ) → i < length old → slice_index new i ≡ slice_index old i
  pub added : (k : ℕ) → k < names → slice_index new (length old + k) ≡ base + k

-- a link of a unit's rows, as one of the program's
abbrev pub relinked : List ℕ → Link → Link
relinked whole k = record { from = slice_index whole k.from; to = slice_index whole k.to; by = k.by }

-- the links that the statements of a unit give are added, as links of the program's rows
pub record AreUnitLinks (find blocks : Text → Option ℕ) (dims : Text → Option (List Par)) (sizes : List ℕ) (lines : List Line) (whole : List ℕ) (old new : List Link) : Type 0 where
  pub links : List Link
  pub fills : List ℕ
  pub counts : List ℕ
  pub linked : LinesLinked find blocks dims sizes lines fills links counts
  pub added : new ≡ old ++ map (relinked whole) links
