-- The rules of types, and the first fault by them: over all procedures, the first part in reading order that breaks a rule, and of its
-- rules that with the smallest number.
use Rattle.std.specs.Prelude.{ℕ, ◌+◌, ◌*◌, nat_lt, nat_eq, Bool, ◌&&◌, List, [], ◌∷◌, ◌++◌, sum, length, unwrap_or, map, flat_map, Option, option_map}
use Rattle.std.specs.List.{list_any, slice_get}
use Rattle.ground.specs.FaultNames.{fault_number}
use Rattle.ground.specs.declared.fault.Fault.{Fault}
use Rattle.ground.specs.declared.fault.FaultKind.{FaultKind}
use Rattle.ground.specs.declared.fault.FaultKind.TheVariants as kinds
use Rattle.ground.specs.declared.value.Kind.TheVariants.{Logical}
use Rattle.rule_table.specs.First.{IsFirst, first_part, part_breaks}
use Rattle.efl_tree.specs.Syntax.{EflDeclKind, Initial, Variables, EflPreset, EflProcedure, EflProgram}
use Rattle.efl_scope.specs.Scopes.{data_type, implied_of}
use Rattle.efl_scope.specs.Parts.{Form, Header, Declares, Groups, States, Until, Chooses, Around, Part, program_parts}
use Rattle.efl_scope.specs.FirstFault.{with_earlier}
use Rattle.efl_types.specs.declared.rule.TypeRule.{TypeRule}
use Rattle.efl_types.specs.declared.rule.TypeRule.TheVariants.{OutOfProfileType, TypeClash, WrongCount, DuplicateCase, BadConstant, MissingUnit, BadFormat, NotAssignable, InitialTwice, LargeVariable, ManyValues}
use Rattle.efl_types.specs.Signatures.{Names, signatures, result_of}
use Rattle.efl_types.specs.Expressions.{when}
use Rattle.efl_types.specs.Statements.{value_faults, statement_faults, clause_faults}
use Rattle.efl_types.specs.Declarations.{variable_sizes, header_faults}
use Rattle.efl_types.specs.Presets.{Filled, preset_faults, filled, many_values, meets_earlier}

abbrev pub kind_of : TypeRule → FaultKind
kind_of OutOfProfileType = kinds.OutOfProfileType
kind_of TypeClash = kinds.TypeClash
kind_of WrongCount = kinds.WrongCount
kind_of DuplicateCase = kinds.DuplicateCase
kind_of BadConstant = kinds.BadConstant
kind_of MissingUnit = kinds.MissingUnit
kind_of BadFormat = kinds.BadFormat
kind_of NotAssignable = kinds.NotAssignable
kind_of InitialTwice = kinds.InitialTwice
kind_of LargeVariable = kinds.Limit
kind_of ManyValues = kinds.Limit

-- the number of the limit that it tells, or 0 where it is no limit
abbrev pub limit_of : TypeRule → ℕ
limit_of LargeVariable = 7
limit_of ManyValues = 13
limit_of _ = 0

-- its place in the order of faults: by the fault's number, and of limits by the limit's, which is below 100
abbrev pub rule_number : TypeRule → ℕ
rule_number r = fault_number (kind_of r) * 100 + limit_of r

-- all rules in that order
abbrev pub type_rules : List TypeRule
type_rules =
    OutOfProfileType ∷ TypeClash ∷ WrongCount ∷ DuplicateCase ∷ BadConstant ∷ MissingUnit ∷ BadFormat ∷ NotAssignable ∷ InitialTwice ∷ LargeVariable ∷ ManyValues ∷ []

-- ---- parts ----

abbrev pub names_of : List EflProcedure → EflProcedure → Part → Names
names_of us u v = record { blocks = v.around.blocks; implied = implied_of u; units = signatures us; result = result_of u.result }

-- the declarations of the outer block stand in no list of statements
abbrev pub is_outer : Around → Bool
is_outer a = nat_eq (length a.position) 0

abbrev pub declaration_faults : EflProcedure → Names → Around → EflDeclKind → List TypeRule
declaration_faults u n a (Initial ps) = flat_map (preset_faults u n (is_outer a)) ps
declaration_faults u n a (Variables q t vs) = variable_sizes a.formals (data_type a.blocks t) vs
declaration_faults u n a _ = []

-- what a part of the procedure u breaks by itself
abbrev pub faults_by : EflProcedure → Names → Around → Form → List TypeRule
faults_by u n a (Header o fs) = header_faults u
faults_by u n a (Declares before k) = declaration_faults u n a k
faults_by u n a (Groups before t vs) = variable_sizes [] (data_type a.blocks t) vs
faults_by u n a (States ls k) = statement_faults n k
faults_by u n a (Until e) = value_faults n Logical e
faults_by u n a (Chooses zs fallback before seen) = clause_faults zs fallback before seen

-- a value by the procedure of a part
abbrev pub of_unit : {A : Type 0} → A → (EflProcedure → A) → List EflProcedure → Part → A
of_unit none f us v = unwrap_or (option_map f (slice_get us v.around.unit)) none

abbrev pub part_faults : List EflProcedure → Part → List TypeRule
part_faults us v = of_unit [] (λ u. faults_by u (names_of us u v) v.around v.form) us v

-- ---- initial values ----

abbrev pub presets_of : Form → List EflPreset
presets_of (Declares before (Initial ps)) = ps
presets_of _ = []

-- the places that a part fills, and the number of its values
abbrev pub part_fills : List EflProcedure → Part → List Filled
part_fills us v = of_unit [] (λ u. flat_map (filled v.around.unit u (names_of us u v)) (presets_of v.form)) us v

abbrev pub part_values : Part → ℕ
part_values v = sum (map many_values (presets_of v.form))

-- the values of the program pass their limit at this part
abbrev pub passes_limit : List Part → Part → Bool
passes_limit earlier v = nat_lt 0 (part_values v) && nat_lt 32767 (sum (map part_values earlier) + part_values v)

-- ---- the table ----

abbrev pub tells : TypeRule → List TypeRule → Bool
tells r rs = list_any (λ s. nat_eq (rule_number r) (rule_number s)) rs

-- all rules that a part breaks, by itself and behind earlier ones
abbrev pub broken_rules : List EflProcedure → List Part → Part → List TypeRule
broken_rules us earlier v =
    part_faults us v ++ when (meets_earlier (flat_map (part_fills us) earlier) (part_fills us v)) InitialTwice ++ when (passes_limit earlier v) ManyValues

abbrev pub breaks : List EflProcedure → List Part → Part → TypeRule → Bool
breaks us earlier v r = tells r (broken_rules us earlier v)

abbrev pub breaks_with : List EflProcedure → List Part × Part → TypeRule → Bool
breaks_with us t r = breaks us t.0 t.1 r

abbrev pub fault_of : (List Part × Part) × TypeRule → Fault
fault_of b = record { kind = kind_of b.1; place = b.0.1.place; number = limit_of b.1 }

-- of a program whose scopes have no fault
-- of these parts in reading order
abbrev pub first_in : List EflProcedure → List Part → Option Fault
first_in us vs = option_map fault_of (first_part (breaks_with us) type_rules (with_earlier [] vs))

abbrev pub first_fault : EflProgram → Option Fault
first_fault p = first_in p.procedures (program_parts p)

-- the same as a relation: the part with this number is the first one with a fault, and the rule its smallest
abbrev pub IsFirstFault : EflProgram → ℕ → TypeRule → Type 0
IsFirstFault p i r = IsFirst rule_number (part_breaks (breaks_with p.procedures) (with_earlier [] (program_parts p))) i r
