-- Small units and the faults of their statements, by computation. The answers were worked out by hand from the standard.
use Rattle.std.proofs.Common.{◌≡◌, ◌+◌, refl}
use Rattle.std.specs.Prelude.{ℕ, pos, true, List, [], ◌∷◌, Option, Some, None}
use Rattle.rule_table.specs.declared.rule.Rule.{Rule}
use Rattle.rule_table.specs.declared.rule.Rule.TheVariants.{Syntax, BadLabel, DoNesting}
use Rattle.ground.specs.declared.place.Place.{Place}
use Rattle.f66_tree.specs.declared.declaration.TypeWord.TheVariants.{Integer}
use Rattle.f66_tree.specs.Fields.{NoField}
use Rattle.f66_tree.specs.Syntax.{Header, MainUnit, DataUnit, Act, Truth, Constant, NoEntry, Goto, Computed, Sign, When, Loop, Continue, Stop, Write, Format, Typed, Preset, Line, unlabelled_line, labelled_line}
use Rattle.rule_table.specs.FaultRules.{first_rule}
use Rattle.f66_flow.specs.declared.scope.Scope.{Scope}
use Rattle.f66_flow.specs.declared.scope.Scope.TheVariants.{Whole, Part}
use Rattle.f66_flow.specs.FlowRules.{breaks_flow_at, header_breaks_flow}

abbrev here : Place
here = record { file = 0; line = 1 }

abbrev plain : Act → Line
plain a = unlabelled_line here a

abbrev at : ℕ → Act → Line
at l a = labelled_line l here a

-- DO l, CONTINUE with and without a label, STOP, IF (.TRUE.) a
abbrev loop : ℕ → Line
loop l = plain (Loop l (73 ∷ []) (Constant (pos 1)) (Constant (pos 9)) (Constant (pos 1)))

abbrev pass : ℕ → Line
pass l = at l Continue

abbrev halt : Line
halt = plain (Stop None)

abbrev when : Act → Line
when a = plain (When (Truth true) a)

abbrev format : ℕ → Line
format l = at l (Format NoField)

abbrev integers : Line
integers = plain (Typed Integer [])

-- the faults of the statements from a number on
abbrev faults_from : Scope → Header → List Line → List Line → ℕ → List (Option Rule)
faults_from w h lines [] i = []
faults_from w h lines (s ∷ rest) i = first_rule (breaks_flow_at w h lines i) ∷ faults_from w h lines rest (i + 1)

abbrev faults_under : Scope → Header → List Line → List (Option Rule)
faults_under w h lines = first_rule (header_breaks_flow w h lines) ∷ faults_from w h lines lines 0

-- those of a main unit
abbrev faults : Scope → List Line → List (Option Rule)
faults w lines = faults_under w MainUnit lines

doubled_label : faults Whole (pass 10 ∷ pass 10 ∷ halt ∷ []) ≡ None ∷ None ∷ Some BadLabel ∷ None ∷ []
doubled_label = refl

zero_label : faults Whole (pass 0 ∷ pass 99999 ∷ pass 100000 ∷ halt ∷ []) ≡ None ∷ Some BadLabel ∷ None ∷ Some BadLabel ∷ None ∷ []
zero_label = refl

branch_to_format : faults Part (plain (Goto 9) ∷ format 9 ∷ halt ∷ []) ≡ None ∷ Some BadLabel ∷ None ∷ None ∷ []
branch_to_format = refl

branches_nowhere : faults Whole (when (Sign (Truth true) 10 10 20) ∷ plain (Computed (10 ∷ 30 ∷ []) (73 ∷ [])) ∷ pass 10 ∷ halt ∷ [])
    ≡ None ∷ Some BadLabel ∷ Some BadLabel ∷ None ∷ None ∷ []
branches_nowhere = refl

write_without_format : faults Whole (pass 10 ∷ when (Write (Constant (pos 6)) 10 NoEntry) ∷ plain (Write (Constant (pos 6)) 9 NoEntry) ∷ format 9 ∷ halt ∷ [])
    ≡ None ∷ None ∷ Some BadLabel ∷ None ∷ None ∷ None ∷ []
write_without_format = refl

nested : faults Whole (loop 20 ∷ loop 10 ∷ when (Goto 10) ∷ pass 10 ∷ when (Goto 20) ∷ pass 20 ∷ halt ∷ [])
    ≡ None ∷ None ∷ None ∷ None ∷ None ∷ None ∷ None ∷ None ∷ []
nested = refl

into_a_range : faults Whole (plain (Goto 10) ∷ loop 20 ∷ pass 10 ∷ pass 20 ∷ halt ∷ []) ≡ None ∷ Some DoNesting ∷ None ∷ None ∷ None ∷ None ∷ []
into_a_range = refl

into_a_range_later : faults Whole (loop 20 ∷ pass 10 ∷ pass 20 ∷ when (Computed (20 ∷ 10 ∷ []) (73 ∷ [])) ∷ halt ∷ [])
    ≡ None ∷ None ∷ None ∷ None ∷ Some DoNesting ∷ None ∷ []
into_a_range_later = refl

overlapping : faults Whole (loop 10 ∷ loop 20 ∷ pass 10 ∷ pass 20 ∷ halt ∷ []) ≡ None ∷ None ∷ Some DoNesting ∷ None ∷ None ∷ None ∷ []
overlapping = refl

shared : faults Whole (loop 10 ∷ loop 10 ∷ when (Goto 10) ∷ pass 10 ∷ halt ∷ []) ≡ None ∷ None ∷ None ∷ None ∷ None ∷ None ∷ []
shared = refl

-- a branch of the outer range to the statement that the inner one ends with too
shared_from_outside : faults Whole (loop 10 ∷ when (Goto 10) ∷ loop 10 ∷ pass 10 ∷ halt ∷ []) ≡ None ∷ None ∷ Some DoNesting ∷ None ∷ None ∷ None ∷ []
shared_from_outside = refl

ends_on_a_branch : faults Whole (loop 10 ∷ at 10 (Goto 20) ∷ pass 20 ∷ halt ∷ []) ≡ None ∷ Some DoNesting ∷ None ∷ None ∷ None ∷ []
ends_on_a_branch = refl

ends_on_a_hidden_stop : faults Whole (loop 10 ∷ at 10 (When (Truth true) (Stop None)) ∷ halt ∷ []) ≡ None ∷ Some DoNesting ∷ None ∷ None ∷ []
ends_on_a_hidden_stop = refl

ends_before_it : faults Whole (pass 10 ∷ loop 10 ∷ halt ∷ []) ≡ None ∷ None ∷ Some DoNesting ∷ None ∷ []
ends_before_it = refl

ends_nowhere : faults Whole (loop 10 ∷ loop 9 ∷ format 9 ∷ halt ∷ []) ≡ None ∷ Some BadLabel ∷ Some BadLabel ∷ None ∷ None ∷ []
ends_nowhere = refl

late : faults Whole (integers ∷ format 9 ∷ integers ∷ pass 10 ∷ integers ∷ halt ∷ []) ≡ None ∷ None ∷ None ∷ None ∷ None ∷ Some Syntax ∷ None ∷ []
late = refl

late_behind_data : faults Part (plain (Preset []) ∷ integers ∷ halt ∷ plain (Preset []) ∷ []) ≡ None ∷ None ∷ Some Syntax ∷ None ∷ None ∷ []
late_behind_data = refl

no_last_transfer : faults Whole (halt ∷ pass 10 ∷ format 9 ∷ []) ≡ None ∷ None ∷ Some Syntax ∷ None ∷ []
no_last_transfer = refl

nothing_executed : faults Whole (integers ∷ []) ≡ Some Syntax ∷ None ∷ []
nothing_executed = refl

-- BLOCK DATA has specifications and DATA alone
block_data : faults_under Whole DataUnit (integers ∷ plain (Preset []) ∷ format 9 ∷ halt ∷ [])
    ≡ None ∷ None ∷ None ∷ Some Syntax ∷ Some Syntax ∷ []
block_data = refl

empty_block_data : faults_under Whole DataUnit [] ≡ None ∷ []
empty_block_data = refl

-- of the first statements of a unit, where the rest is not there yet
part : faults Part (loop 10 ∷ pass 20 ∷ []) ≡ None ∷ None ∷ None ∷ []
part = refl
