-- The units of a linked program in their layout, and their code.
use Rattle.std.specs.Prelude.{◌≡◌, ◌<◌, ◌^◌, ℕ, List, map}
use Rattle.std.specs.List.{All}
use Rattle.f66_program.specs.Calls.{Leads}
use Rattle.linker.specs.CallViews.{units_in}
use Rattle.whole_program.specs.declared.linked.Linked.{Linked}
use Rattle.stack_code.specs.Views.{code_of}
use Rattle.code_gen.specs.Layout.{Layout}
use Rattle.code_gen.specs.Statements.{units_code}
use Rattle.code_validity.specs.Valid.{storage_size}
use Rattle.code_emit.specs.declared.planned.PlannedCode.{PlannedCode}
use Rattle.code_emit.specs.Plans.{all_formats}
use Rattle.code_layout.specs.declared.linked_unit.LinkedUnit.{LinkedUnit}
use Rattle.code_layout.specs.declared.program_tables.ProgramTables.{ProgramTables}
use Rattle.code_layout.specs.declared.spread.Spread.{Spread}
use Rattle.code_layout.specs.Spreading.{layout_of}
use Rattle.code_layout.specs.Tabled.{layout_in, lines_in, order_in}

-- these numbers lay the program out by ranks that fall along each call
pub record IsLaidByRanks (t : ProgramTables) (m : Spread) : Type 0 where
  pub rank : ℕ → ℕ
  pub falls : (u v : ℕ) → Leads (units_in t.linked.now.calls) u v → rank v < rank u
  pub laid : layout_in t m ≡ layout_of t.linked.now rank

-- its units in the order of their code, in one layout
pub record AreOrdered (t : ProgramTables) (m : Spread) (units : List LinkedUnit) : Type 0 where
  pub numbers : map (λ x. x.number) units ≡ order_in t.linked.now
  pub one : All (λ x. layout_in x.tables.now x.spread.now ≡ layout_in t m) units

-- their code in a layout, with the plans of their formats, and how many storage units they have
pub record IsCoded (l : Linked) (y : Layout) (made : PlannedCode) (size : ℕ) : Type 0 where
  pub code : code_of made.ops.items ≡ units_code y (order_in l)
  pub plans : made.plans.items ≡ all_formats (lines_in l) (order_in l)
  pub size_is : size ≡ storage_size y (order_in l)
  pub few : size < 2 ^ 31
