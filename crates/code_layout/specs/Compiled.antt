-- The stack code of a linked program.
use Rattle.std.specs.Prelude.{◌≡◌, ◌<◌, ◌^◌, ℕ, List, length}
use Rattle.std.specs.List.{All}
use Rattle.ground.specs.declared.place.Place.{Place}
use Rattle.f66_tree.specs.Execution.{f66}
use Rattle.f66_tree.specs.World.{Record, Ended, Wrong}
use Rattle.f66_check.specs.Answers.{IsSoundUnit}
use Rattle.f66_program.specs.Linking.{IsWhole}
use Rattle.linker.specs.CallViews.{units_in}
use Rattle.whole_program.specs.declared.linked.Linked.{Linked}
use Rattle.whole_program.specs.Linked.{IsLinked}
use Rattle.whole_program.specs.Linkage.{linkage_of}
use Rattle.stack_code.specs.declared.valid.Code.{Code}
use Rattle.stack_code.specs.Bounds.{IsChecked}
use Rattle.stack_code.specs.StackMachine.{Program, Ends, start, first_world}
use Rattle.stack_code.specs.Views.{code_of}
use Rattle.code_gen.specs.Linked.{IsRanked}
use Rattle.code_gen.specs.Statements.{units_code}
use Rattle.code_emit.specs.Plans.{all_formats, plan_at}
use Rattle.code_layout.specs.Order.{others_of}
use Rattle.code_layout.specs.Ranked.{bound_of, initial_of}
use Rattle.code_layout.specs.Spreading.{layout_of}
use Rattle.code_layout.specs.Tabled.{lines_in, order_in}

-- a whole program of sound units, linked
pub record IsSoundProgram (l : Linked) : Type 0 where
  pub finish : Place
  pub whole : IsWhole (record { units = units_in l.calls; finish = finish })
  pub linked : IsLinked (units_in l.calls) l
  pub sound : All IsSoundUnit (units_in l.calls)

-- the code of its units in a layout by ranks, with the plans of their formats; it is valid, and its store is not too large
pub record IsCompiled (l : Linked) (made : Code) : Type 0 where
  pub rank : ℕ → ℕ
  pub ranked : IsRanked (units_in l.calls) (linkage_of l) (lines_in l) (plan_at (lines_in l) (order_in l)) (initial_of l) (bound_of l) rank (others_of l.main (length (units_in l.calls))) (all_formats (lines_in l) (order_in l))
  pub code : code_of made.ops.items ≡ units_code (layout_of l rank) (order_in l)
  pub plans : made.plans.items ≡ all_formats (lines_in l) (order_in l)
  pub checked : IsChecked (code_of made.ops.items) (length made.plans.items) made.units made.stack made.dummies made.depth
  pub few : made.units < 2 ^ 31

abbrev pub program_of : Code → Program
program_of made = record { code = code_of made.ops.items; plans = made.plans.items }

-- for all input records and however many statements may begin, the code shows what the units show, unless their run goes wrong
abbrev pub CompiledBehaves : Type 0
CompiledBehaves =
    (l : Linked) (made : Code) → IsCompiled l made → (input : List Record) (n : ℕ) → ((f66 (linkage_of l) (lines_in l) input n).end ≡ Ended Wrong → ⊥) → Ends (program_of made) start (first_world input n) (f66 (linkage_of l) (lines_in l) input n)
