-- The first faults of small units, by computation.
use Rattle.std.proofs.Common.{◌≡◌, true, false, refl}
use Rattle.std.specs.Fmt.{digits}
use Rattle.std.specs.Prelude.{ℕ, zero, suc, ◌+◌, decimal, pos, List, [], ◌∷◌, ◌++◌, Option, Some, None, codes}
use Rattle.ground.specs.Faults.{limit_at}
use Rattle.ground.specs.declared.fault.Fault.{Fault}
use Rattle.rule_table.specs.declared.rule.Rule.{Rule}
use Rattle.rule_table.specs.declared.rule.Rule.TheVariants.{Syntax, NameTooLong, OutOfProfileType, TypeClash, WrongCount, DuplicateName, BadLabel, BadBreak, DuplicateCase, BadConstant, NotAssignable}
use Rattle.rule_table.specs.FaultRules.{fault_of}
use Rattle.f66_tree.specs.declared.declaration.TypeWord.TheVariants.{Integer, Logical}
use Rattle.f66_tree.specs.declared.expression.Operator.TheVariants.{Lt, And}
use Rattle.f66_tree.specs.Syntax.{Text, Truth, Item, Pair, NoFormula, AndFormula, Constant, Declared, Header, MainUnit, SubUnit, FuncUnit, DataUnit, Act, Assign, Goto, Computed, When, Continue, Stop, Typed, Dimension, Common, Invoke}
use Rattle.f66_tree.proofs.ExampleParts.{here, i, k, num, var, with_one, set, i3}
use Rattle.rat_tree.specs.Syntax.{Command, Empty, Block, If, While, For, Repeat, RepeatUntil, Do, Switch, Break, Return, Plain, Labelled, Commands, NoCommand, AndCommand, NoClause, AndClause}
use Rattle.rat_check.specs.Parts.{unit_parts}
use Rattle.rat_check.specs.FirstFault.{fault_of_parts}

abbrev all : List Command → Commands
all [] = NoCommand
all (c ∷ cs) = AndCommand c (all cs)

abbrev plain : ℕ → Act → Command
plain p a = Plain None (here p) a

abbrev block : ℕ → List Command → Command
block p cs = Block (here p) (all cs)

abbrev first : List Command → Option Fault
first cs = fault_of_parts MainUnit (here 0) (unit_parts (all cs))

-- of a unit with a header, which stands at line 1
abbrev under : Header → List Command → Option Fault
under h cs = fault_of_parts h (here 1) (unit_parts (all cs))

abbrev at : ℕ → Rule → Option Fault
at p r = Some (fault_of (here p) r)

abbrev l : Text
l = codes "L"

abbrev scalar : Text → Declared
scalar x = record { name = x; sizes = [] }

abbrev sized : Text → ℕ → Declared
sized x n = record { name = x; sizes = Constant (pos n) ∷ [] }

-- logical l; dimension k(10)
abbrev logical : ℕ → Command
logical p = plain p (Typed Logical (scalar l ∷ []))

abbrev array : ℕ → Command
array p = plain p (Dimension (sized k 10 ∷ []))

abbrev one : ℕ → Command
one p = plain p (set i (num (pos 1)))

-- ---- what is accepted ----

-- i = 1; if (l & k(i) < 3) k(i) = 2, with the declarations before
mixed : first (logical 1 ∷ array 2 ∷ one 3 ∷ If (here 4) (Pair And (var l) (Pair Lt (with_one k (var i)) (num (pos 3)))) (plain 4 (Assign (with_one k (var i)) (num (pos 2)))) ∷ []) ≡ None
unfolding digits
mixed = refl

-- 9 format(i3), ;, { logical l } at the beginning
abbrev format_first : Command
format_first = Plain (Some 9) (here 1) i3.act

nothing_yet : first (format_first ∷ Empty (here 1) ∷ block 2 (logical 2 ∷ []) ∷ one 3 ∷ []) ≡ None
unfolding digits
nothing_yet = refl

-- ---- the rules of names ----

-- if (i) i = 1
integer_condition : first (If (here 1) (var i) (one 1) ∷ []) ≡ at 1 TypeClash
integer_condition = refl

-- the condition of until takes its turn where it stands
late_condition : first (RepeatUntil (here 1) (block 1 (one 2 ∷ [])) (var i) (here 3) ∷ []) ≡ at 3 TypeClash
unfolding digits
late_condition = refl

-- switch (l) with an array as a case: the value comes first
logical_value : first (logical 1 ∷ Switch (here 2) (var l) (AndClause (AndFormula (var k) NoFormula) false NoCommand (here 3) NoClause) ∷ []) ≡ at 2 TypeClash
logical_value = refl

array_case : first (array 1 ∷ Switch (here 2) (var i) (AndClause (AndFormula (num (pos 1)) (AndFormula (var k) NoFormula)) false NoCommand (here 3) NoClause) ∷ []) ≡ at 3 TypeClash
unfolding digits
array_case = refl

-- a `for` whose condition is an integer, and whose step has a long name: the smaller number
for_smaller : first (For (here 1) (Some (set i (num (pos 1)))) (Some (var i)) (Some (set i (var (codes "IABCDEF")))) (one 1) ∷ []) ≡ at 1 NameTooLong
for_smaller = refl

-- do k = 1, 3 with the array k
array_counts : first (array 1 ∷ Do (here 2) k (Constant (pos 1)) (Constant (pos 3)) (Constant (pos 1)) (one 2) ∷ []) ≡ at 2 NotAssignable
unfolding digits
array_counts = refl

-- a declaration counts before it too, and stands at the wrong place
real_declared : first (plain 1 (set (codes "A") (num (pos 1))) ∷ []) ≡ at 1 OutOfProfileType
real_declared = refl

declared_late : first (plain 1 (set (codes "A") (num (pos 1))) ∷ plain 2 (Typed Integer (scalar (codes "A") ∷ [])) ∷ []) ≡ at 2 Syntax
unfolding digits
declared_late = refl

twice_declared : first (logical 1 ∷ logical 2 ∷ []) ≡ at 2 DuplicateName
twice_declared = refl

wrong_count : first (array 1 ∷ plain 2 (set i (Item k (AndFormula (num (pos 1)) (AndFormula (num (pos 2)) NoFormula)))) ∷ []) ≡ at 2 WrongCount
unfolding digits
wrong_count = refl

empty_array : first (plain 1 (Dimension (sized k 0 ∷ [])) ∷ []) ≡ at 1 BadConstant
empty_array = refl

whole_array : first (array 1 ∷ plain 2 (set k (num (pos 1))) ∷ []) ≡ at 2 NotAssignable
unfolding digits
whole_array = refl

-- limit 7
large_array : first (plain 1 (Dimension (sized k 32768 ∷ [])) ∷ []) ≡ Some (limit_at (here 1) 7)
large_array = refl

-- ---- the order of statements ----

behind_repeat : first (Repeat (here 1) (logical 1) ∷ []) ≡ at 1 Syntax
behind_repeat = refl

behind_label : first (Labelled 5 (here 1) (Empty (here 1)) ∷ logical 2 ∷ []) ≡ at 2 Syntax
behind_label = refl

-- ---- Ratfor's own ----

own_rules : first (While (here 1) (Pair Lt (var i) (num (pos 3))) (block 1 (plain 2 (Goto 10) ∷ Break (here 3) 2 ∷ [])) ∷ []) ≡ at 2 BadLabel
unfolding digits
own_rules = refl

too_far : first (While (here 1) (Pair Lt (var i) (num (pos 3))) (Break (here 3) 2) ∷ []) ≡ at 3 BadBreak
unfolding digits
too_far = refl

second_default : first (Switch (here 1) (var i) (AndClause NoFormula true NoCommand (here 2) (AndClause NoFormula true NoCommand (here 3) NoClause)) ∷ []) ≡ at 3 DuplicateCase
second_default = refl

-- a jump to a label that is missing, by an array: the smaller number
array_jump : first (array 1 ∷ Plain None (here 2) (Computed (10 ∷ []) k) ∷ []) ≡ at 2 TypeClash
unfolding digits
array_jump = refl

-- ---- what a tree can hold, and no text gives ----

-- an IF of FORTRAN, and a `for` whose first part is a STOP
plain_condition : first (plain 1 (When (Truth true) Continue) ∷ []) ≡ at 1 Syntax
plain_condition = refl

stop_first : first (For (here 1) (Some (Stop None)) None None (one 1) ∷ []) ≡ at 1 Syntax
stop_first = refl

-- ---- units with headers ----

abbrev function : Header
function = FuncUnit None (codes "KIND") (k ∷ [])

-- function kind(k); return (k)
returned : under function (Return (here 2) (Some (var k)) ∷ []) ≡ None
unfolding digits
returned = refl

-- function kind(k); return (.true.), and in a logical function
truth_returned : under function (Return (here 2) (Some (Truth true)) ∷ []) ≡ at 2 TypeClash
truth_returned = refl

logical_returned : under (FuncUnit (Some Logical) (codes "KIND") (k ∷ [])) (Return (here 2) (Some (Truth true)) ∷ []) ≡ None
unfolding digits
logical_returned = refl

-- subroutine sub(k); return (k); and without a value, behind a call
value_returned : under (SubUnit (codes "SUB") (k ∷ [])) (Return (here 2) (Some (var k)) ∷ []) ≡ at 2 TypeClash
value_returned = refl

nothing_returned : under (SubUnit (codes "SUB") (k ∷ [])) (plain 2 (Invoke (codes "OTHER") (AndFormula (var k) NoFormula)) ∷ Return (here 3) None ∷ []) ≡ None
unfolding digits
nothing_returned = refl

-- function a(k), which would be real; and a long name with a fault behind it
real_function : under (FuncUnit None (codes "A") (k ∷ [])) (Return (here 2) (Some (var k)) ∷ []) ≡ at 1 OutOfProfileType
real_function = refl

long_header : under (SubUnit (codes "SUBROUT") []) (plain 2 (Goto 10) ∷ []) ≡ at 1 NameTooLong
long_header = refl

-- limit 9: with these dummies a header has 1,320 characters where its own name has one, and one more where that has two
abbrev dummies : ℕ → List Text
dummies zero = codes "LAST" ∷ []
dummies (suc n) = (codes "K" ++ decimal (10000 + n)) ∷ dummies n

abbrev wide : Text → Header
wide x = SubUnit x (dummies 186)

widest_header : under (wide (codes "S")) (one 2 ∷ []) ≡ None
unfolding digits
widest_header = refl

too_wide : under (wide (codes "SO")) (plain 2 (Goto 10) ∷ []) ≡ Some (limit_at (here 1) 9)
unfolding digits
too_wide = refl

-- the dummy k in a common block
dummy_common : under function (plain 2 (Common (record { name = None; list = scalar k ∷ [] } ∷ [])) ∷ Return (here 3) (Some (var i)) ∷ []) ≡ at 2 DuplicateName
dummy_common = refl

-- block data with an empty statement, and with an assignment
empty_block : under DataUnit (Empty (here 2) ∷ logical 3 ∷ []) ≡ None
unfolding digits
empty_block = refl

block_assigns : under DataUnit (logical 2 ∷ one 3 ∷ []) ≡ at 3 Syntax
unfolding digits
block_assigns = refl
