-- The rules of a unit in their order, and the fault that each tells.
use Rattle.std.specs.Prelude.{ℕ, ◌+◌, ◌*◌, nat_le, Bool, Option, Some, None, List, [], ◌∷◌, find, if◌then◌else◌}
use Rattle.ground.specs.FaultNames.{fault_number}
use Rattle.ground.specs.declared.fault.Fault.{Fault}
use Rattle.ground.specs.declared.fault.FaultKind.{FaultKind}
use Rattle.ground.specs.declared.fault.FaultKind.TheVariants as kinds
use Rattle.ground.specs.declared.place.Place.{Place}
use Rattle.rule_table.specs.declared.rule.Rule.{Rule}
use Rattle.rule_table.specs.declared.rule.Rule.TheVariants.{Syntax, NameTooLong, OutOfProfileType, TypeClash, WrongCount, DuplicateName, BadLabel, BadBreak, DuplicateCase, BadConstant, DoNesting, BadFormat, NotAssignable, LargeArray, LongText, Unbuilt}

-- the kind of the fault that a rule tells
abbrev pub kind_of : Rule → FaultKind
kind_of Syntax = kinds.Syntax
kind_of NameTooLong = kinds.NameTooLong
kind_of OutOfProfileType = kinds.OutOfProfileType
kind_of TypeClash = kinds.TypeClash
kind_of WrongCount = kinds.WrongCount
kind_of DuplicateName = kinds.DuplicateName
kind_of BadLabel = kinds.BadLabel
kind_of BadBreak = kinds.BadBreak
kind_of DuplicateCase = kinds.DuplicateCase
kind_of BadConstant = kinds.BadConstant
kind_of DoNesting = kinds.DoNesting
kind_of BadFormat = kinds.BadFormat
kind_of NotAssignable = kinds.NotAssignable
kind_of LargeArray = kinds.Limit
kind_of LongText = kinds.Limit
kind_of Unbuilt = kinds.Unbuilt

-- the number of the limit that it tells, or 0 where it is no limit
abbrev pub limit_of : Rule → ℕ
limit_of LargeArray = 7
limit_of LongText = 9
limit_of _ = 0

-- its place in the order of faults: by the fault's number, and at one number by the limit's, which is below 100
abbrev pub rule_number : Rule → ℕ
rule_number r = fault_number (kind_of r) * 100 + limit_of r

-- the fault of a part at a place that breaks a rule
abbrev pub fault_of : Place → Rule → Fault
fault_of place r = record { kind = kind_of r; place = place; number = limit_of r }

-- all rules in that order
abbrev pub rules : List Rule
rules =
    Syntax ∷ NameTooLong ∷ OutOfProfileType ∷ TypeClash ∷ WrongCount ∷ DuplicateName ∷ BadLabel ∷ BadBreak ∷ DuplicateCase ∷ BadConstant ∷ DoNesting ∷ BadFormat ∷ NotAssignable ∷ LargeArray ∷ LongText ∷ Unbuilt ∷ []

-- the first rule that is broken
abbrev pub first_rule : (Rule → Bool) → Option Rule
first_rule broken = find broken rules

-- of what two tables tell, the rule that comes first
abbrev pub lesser : Option Rule → Option Rule → Option Rule
lesser None o = o
lesser (Some r) None = Some r
lesser (Some r) (Some s) = if nat_le (rule_number r) (rule_number s) then Some r else Some s
