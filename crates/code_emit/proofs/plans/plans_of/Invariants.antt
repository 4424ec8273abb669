-- The formats before are noted.
use Rattle.std.proofs.Common.{◌≡◌, ◌+◌, ℕ, nat_eq, drop}
use Rattle.std.specs.HashMap.{get}
use Rattle.std.specs.Option.{option_or}
use Rattle.f66_tree.specs.Views.{lines_of}
use Rattle.code_emit.specs.Plans.{find_plan, formats_count}
use Rattle.code_emit.proofs.plans.plans_of.Given as goal

abbrev pub invariant-loop-statement : goal.invariant-loop-statement
invariant-loop-statement l = record {
  noted : (q : ℕ) → option_or (get nat_eq l.numbers q) (find_plan q l.end (lines_of (drop l.statement-index l.statements))) ≡ find_plan q l.first (lines_of l.statements);
  counted : l.end + formats_count (lines_of (drop l.statement-index l.statements)) ≡ l.first + formats_count (lines_of l.statements);
}
