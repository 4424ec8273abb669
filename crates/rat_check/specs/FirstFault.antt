-- The first fault of the checks of a Ratfor program: unit by unit; in a unit the header and then the first part in reading order
-- that breaks a rule, and of its rules that with the smallest number.
use Rattle.std.specs.Prelude.{ℕ, List, [], ◌∷◌, Option, Some, None, Result, Ok, Err, ◌≡◌, ⊤}
use Rattle.ground.specs.declared.place.Place.{Place}
use Rattle.ground.specs.declared.fault.Fault.{Fault}
use Rattle.rule_table.specs.declared.rule.Rule.{Rule}
use Rattle.rule_table.specs.FaultRules.{fault_of, first_rule}
use Rattle.ground.specs.declared.fault.Refusal.{Refusal}
use Rattle.ground.specs.declared.fault.Refusal.TheVariants.{Fault as Faulty, Memory}
use Rattle.f66_tree.specs.Syntax.{Header, Format}
use Rattle.rat_tree.specs.Syntax.{RatRoutine, RatProgram}
use Rattle.rat_check.specs.Parts.{Form, Statement, Labels, no_label, with_label, Part, unit_parts}
use Rattle.rat_check.specs.Said.{said_in, context_of_parts}
use Rattle.rat_check.specs.Rules.{breaks_unit_header, Before, nothing_before, behind, UnitRules, broken_rule}

abbrev pub or_else : {A : Type 0} → Option A → Option A → Option A
or_else None o = o
or_else (Some a) o = Some a

-- the label of a format
abbrev pub format_label : Option ℕ → Form → Option ℕ
format_label None form = None
format_label (Some l) (Statement (Format f)) = Some l
format_label (Some l) _ = None

-- these labels, and those of the formats
abbrev pub with_formats : List Part → Labels → Labels
with_formats [] ls = ls
with_formats (v ∷ vs) ls = with_formats vs (with_label (format_label v.label v.form) ls)

abbrev pub fault_if : Place → Option Rule → Option Fault
fault_if p None = None
fault_if p (Some r) = Some (fault_of p r)

-- these labels, and those of the parts
abbrev pub with_own : List Part → Labels → Labels
with_own [] ls = ls
with_own (v ∷ vs) ls = with_own vs (with_label v.label ls)

-- the first part that breaks a rule
abbrev pub first_broken : UnitRules → Before → List Part → Option Fault
first_broken u b [] = None
first_broken u b (v ∷ vs) = or_else (fault_if v.place (broken_rule u b v)) (first_broken u (behind u.context.header b v) vs)

-- a unit with this header of these parts
abbrev pub unit_whole : Header → List Part → UnitRules
unit_whole h vs = record { context = context_of_parts h vs; said = said_in h vs; formats = with_formats vs no_label }

-- what the header breaks, at the unit's place, and then what its parts do
abbrev pub fault_of_parts : Header → Place → List Part → Option Fault
fault_of_parts h p vs = or_else (fault_if p (first_rule (breaks_unit_header (context_of_parts h vs)))) (first_broken (unit_whole h vs) nothing_before vs)

abbrev pub unit_fault : RatRoutine → Option Fault
unit_fault u = fault_of_parts u.header u.place (unit_parts u.body)

abbrev pub first_fault_of : List RatRoutine → Option Fault
first_fault_of [] = None
first_fault_of (u ∷ us) = or_else (unit_fault u) (first_fault_of us)

abbrev pub first_fault : RatProgram → Option Fault
first_fault program = first_fault_of program.routines

-- an answer tells the fault, or that there is none; want of memory tells nothing
abbrev pub Tells : {A : Type 0} → Result A Refusal → Option Fault → Type 0
Tells (Ok _) o = o ≡ None
Tells (Err (Faulty f)) o = o ≡ Some f
Tells (Err Memory) o = ⊤
