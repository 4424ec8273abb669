-- What the check of scopes answers: that no part breaks a rule, or the first fault.
use Rattle.std.specs.Prelude.{◌≡◌, ℕ, [], Some, option_map, ⊤}
use Rattle.std.specs.List.{slice_get}
use Rattle.ground.specs.declared.fault.Fault.{Fault}
use Rattle.ground.specs.declared.fault.Refusal.{Refusal}
use Rattle.ground.specs.declared.fault.Refusal.TheVariants.{Fault as AFault, Memory}
use Rattle.ground.specs.Faults.{fault_at}
use Rattle.rule_table.specs.First.{IsClean, part_breaks}
use Rattle.efl_tree.specs.Syntax.{EflProgram}
use Rattle.efl_scope.specs.declared.rule.ScopeRule.{ScopeRule}
use Rattle.efl_scope.specs.Parts.{program_parts}
use Rattle.efl_scope.specs.ScopeRules.{kind_of}
use Rattle.efl_scope.specs.FirstFault.{with_earlier, breaks_with, IsFirstFault}

-- no part breaks a rule
pub record IsScoped (p : EflProgram) : Type 0 where
  pub clean : IsClean (part_breaks (breaks_with p.procedures) (with_earlier [] (program_parts p)))

-- the fault is that of the first part with one, by its rule with the smallest number
pub record IsFirst (p : EflProgram) (f : Fault) : Type 0 where
  pub part : ℕ
  pub rule : ScopeRule
  pub first : IsFirstFault p part rule
  pub fault : f ≡ fault_at f.place (kind_of rule)
  pub place : option_map (λ v. v.place) (slice_get (program_parts p) part) ≡ Some f.place

abbrev pub IsRightRefusal : EflProgram → Refusal → Type 0
IsRightRefusal p (AFault f) = IsFirst p f
IsRightRefusal p Memory = ⊤
