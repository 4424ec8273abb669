-- The rows and links of the first units of a program, as they are in memory.
use Rattle.std.specs.Prelude.{◌≡◌, ℕ, List, length, slice_index, Option, None, Some, option_map}
use Rattle.std.specs.HashMap.{get_by}
use Rattle.std.specs.List.{slice_get}
use Rattle.std.specs.Str.{bytes_eq}
use Rattle.f66_tree.specs.Syntax.{Text, Routine}
use Rattle.f66_program.specs.Association.{Row}
use Rattle.program_storage.specs.declared.unit_rows.UnitRows.{UnitRows}
use Rattle.program_storage.specs.declared.program_rows.ProgramRows.{ProgramRows}
use Rattle.program_storage.specs.Rows.{AreRowsOf, AreLinked}

-- the row of a name of a unit
abbrev pub row_in : UnitRows → Text → Option ℕ
row_in w x = option_map (slice_index w.whole.items) (get_by (λ k. bytes_eq x k.now) w.rows)

abbrev pub found_in : Text → Option UnitRows → Option ℕ
found_in x None = None
found_in x (Some w) = row_in w x

-- the row of a name of one of the units
abbrev pub find_in : List UnitRows → ℕ → Text → Option ℕ
find_in units u x = found_in x (slice_get units u)

-- the rows and links of these units
pub record ArePart (rs : List Routine) (blocks : Text → Option ℕ) (count : ℕ) (p : ProgramRows) : Type 0 where
  pub rows : List Row
  pub many : length p.units.items ≡ length rs
  pub table : AreRowsOf rs (find_in p.units.items) blocks p.sizes.items count rows
  pub linked : AreLinked rs (find_in p.units.items) blocks p.links.items rows
