-- The tables of a linked program lay it out.
use Rattle.std.specs.Prelude.{◌≡◌, ℕ, map}
use Rattle.code_emit.specs.Names.{preset_in}
use Rattle.code_layout.specs.declared.program_tables.ProgramTables.{ProgramTables}
use Rattle.code_layout.specs.declared.spread.Spread.{Spread}
use Rattle.code_layout.specs.Tabled.{layout_in}
use Rattle.code_layout.specs.Ranked.{initial_of}
use Rattle.code_layout.specs.Spreading.{IsSpread, layout_of}

-- with the initial values and the numbers of a layout by ranks they have that layout
abbrev pub TablesLayOut : Type 0
TablesLayOut = (t : ProgramTables) (m : Spread) (rank : ℕ → ℕ) → map preset_in t.presets.items ≡ initial_of t.linked.now → IsSpread t.linked.now rank m → layout_in t m ≡ layout_of t.linked.now rank
