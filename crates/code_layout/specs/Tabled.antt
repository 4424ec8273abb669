-- The layout that the tables of a linked program have.
use Rattle.std.specs.Prelude.{ℕ, List, [], ◌∷◌, length, map, slice_index_or, Option, None, Some}
use Rattle.std.specs.List.{slice_get}
use Rattle.f66_tree.specs.Syntax.{Text, Line, Routine}
use Rattle.linker.specs.CallViews.{units_in}
use Rattle.whole_program.specs.declared.linked.Linked.{Linked}
use Rattle.whole_program.specs.Linkage.{linkage_of}
use Rattle.code_gen.specs.Layout.{Layout, size_in}
use Rattle.code_emit.specs.declared.coded_unit.Callee.{Callee}
use Rattle.code_emit.specs.Names.{preset_in}
use Rattle.code_emit.specs.Plans.{plan_at}
use Rattle.code_layout.specs.declared.program_tables.ProgramTables.{ProgramTables}
use Rattle.code_layout.specs.declared.spread.Spread.{Spread}
use Rattle.code_layout.specs.Order.{others_of}

abbrev pub lines_or : Option Routine → List Line
lines_or None = []
lines_or (Some r) = r.lines

-- the statements of each unit
abbrev pub lines_in : Linked → ℕ → List Line
lines_in l u = lines_or (slice_get (units_in l.calls) u)

-- the units in the order of their code
abbrev pub order_in : Linked → List ℕ
order_in l = l.main ∷ others_of l.main (length (units_in l.calls))

abbrev pub layout_in : ProgramTables → Spread → Layout
layout_in t m = record {
  linked = linkage_of t.linked.now;
  lines = lines_in t.linked.now;
  entry = λ u. slice_index_or m.starts.items u m.end;
  plan = plan_at (lines_in t.linked.now) (order_in t.linked.now);
  spare = λ u. slice_index_or m.spares.items u m.bound;
  loops = λ u. slice_index_or m.loops.items u m.bound;
  presets = map preset_in t.presets.items;
}

-- a unit that a name calls
abbrev pub callee_at : Layout → Text → ℕ → Callee
callee_at y x v = record { entry = y.entry v; first = y.linked.number v x 0; size = size_in (y.linked.context v) x }
