-- The first fault of the scopes of a program: over all procedures, the first part in reading order that breaks a rule, and of its
-- rules that with the smallest number.
use Rattle.std.specs.Prelude.{ℕ, Bool, List, [], ◌∷◌, ◌++◌, Option, option_map}
use Rattle.ground.specs.declared.fault.Fault.{Fault}
use Rattle.rule_table.specs.First.{IsFirst, first_part, part_breaks}
use Rattle.efl_tree.specs.Syntax.{EflProcedure, EflProgram}
use Rattle.efl_scope.specs.declared.rule.ScopeRule.{ScopeRule}
use Rattle.efl_scope.specs.Parts.{Part, program_parts}
use Rattle.efl_scope.specs.ScopeRules.{kind_of, rule_number, scope_rules, breaks}

-- each part with those before it
abbrev pub with_earlier : List Part → List Part → List (List Part × Part)
with_earlier earlier [] = []
with_earlier earlier (v ∷ vs) = (earlier, v) ∷ with_earlier (earlier ++ v ∷ []) vs

abbrev pub breaks_with : List EflProcedure → List Part × Part → ScopeRule → Bool
breaks_with us t r = breaks us t.0 t.1 r

abbrev pub fault_of : (List Part × Part) × ScopeRule → Fault
fault_of b = record { kind = kind_of b.1; place = b.0.1.place; number = 0 }

-- of these parts, behind earlier ones
abbrev pub first_in : List EflProcedure → List Part → List Part → Option Fault
first_in us earlier vs = option_map fault_of (first_part (breaks_with us) scope_rules (with_earlier earlier vs))

abbrev pub first_fault : EflProgram → Option Fault
first_fault p = first_in p.procedures [] (program_parts p)

-- the same as a relation: the part with this number is the first one with a fault, and the rule its smallest
abbrev pub IsFirstFault : EflProgram → ℕ → ScopeRule → Type 0
IsFirstFault p i r = IsFirst rule_number (part_breaks (breaks_with p.procedures) (with_earlier [] (program_parts p))) i r
