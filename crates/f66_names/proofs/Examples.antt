-- The rules on small units, by computation.
use Rattle.std.proofs.Common.{◌≡◌, refl}
use Rattle.std.specs.Prelude.{ℕ, pos, ◌+◌, Bool, true, false, List, [], ◌∷◌, Option, Some, None, codes}
use Rattle.rule_table.specs.declared.rule.Rule.{Rule}
use Rattle.rule_table.specs.declared.rule.Rule.TheVariants.{Syntax, NameTooLong, OutOfProfileType, TypeClash, WrongCount, DuplicateName, BadConstant, BadFormat, NotAssignable, LargeArray}
use Rattle.rule_table.specs.FaultRules.{first_rule}
use Rattle.f66_tree.specs.declared.declaration.TypeWord.TheVariants.{Integer, Logical, Other}
use Rattle.f66_tree.specs.declared.expression.Operator.TheVariants.{Add, Sub, Mul, Power, Lt, And}
use Rattle.f66_tree.specs.declared.editing.EditKind.TheVariants as edits
use Rattle.f66_tree.specs.Fields.{Takes, Blanks, Chars, Slash, Fields, NoField, Single, Group}
use Rattle.f66_tree.specs.Syntax.{Text, Formula, Int, Truth, Ref, Item, Not, Pair, NoFormula, AndFormula, Constant, Named, Declared, Header, MainUnit, SubUnit, Entry, One, Many, NoEntry, AndEntry, Act, Assign, Computed, When, Loop, Continue, Stop, Read, Write, Format, Typed, Dimension, Invoke}
use Rattle.f66_names.specs.Declaring.{context_by}
use Rattle.f66_names.specs.BuiltActs as built
use Rattle.f66_names.specs.Rules.{breaks_name}
use Rattle.f66_tree.specs.Syntax as f66

-- the first rule that the last of some statements breaks
abbrev last : List Act → ℕ × Act
last [] = (0, Continue)
last (a ∷ []) = (0, a)
last (a ∷ b ∷ rest) = ((last (b ∷ rest)).0 + 1, (last (b ∷ rest)).1)

abbrev fault_under : Header → List Act → Option Rule
fault_under h acts = let at = last acts in first_rule (breaks_name (context_by h acts) acts at.0 at.1)

abbrev fault : List Act → Option Rule
fault acts = fault_under MainUnit acts

abbrev is_built : List Act → Bool
is_built acts = let at = last acts in built.is_built (context_by MainUnit acts) at.1

abbrev num : ℕ → Formula
num z = Int (pos z)

abbrev i : Text
i = codes "I"

abbrev k : Text
k = codes "K"

abbrev l : Text
l = codes "L"

abbrev with_one : Text → Formula → Formula
with_one x a = Item x (AndFormula a NoFormula)

abbrev with_two : Text → Formula → Formula → Formula
with_two x a b = Item x (AndFormula a (AndFormula b NoFormula))

abbrev scalar : Text → Declared
scalar x = record { name = x; sizes = [] }

abbrev sized : Text → ℕ → Declared
sized x n = record { name = x; sizes = Constant (pos n) ∷ [] }

-- LOGICAL L, and DIMENSION K(10)
abbrev logical : Act
logical = Typed Logical (scalar l ∷ [])

abbrev array : Act
array = Dimension (sized k 10 ∷ [])

abbrev set : Formula → Formula → Act
set x e = Assign x e

-- I = K + 1, where both are integers
sound : fault (set (Ref i) (Pair Add (Ref k) (num 1)) ∷ []) ≡ None
sound = refl

-- K(2*I-1) = 1
element : fault (array ∷ set (with_one k (Pair Sub (Pair Mul (num 2) (Ref i)) (num 1))) (num 1) ∷ []) ≡ None
element = refl

-- a sum under a product without parentheses
sum_in_product : fault (set (Ref i) (Pair Mul (Pair Add (Ref i) (num 1)) (num 2)) ∷ []) ≡ Some Syntax
sum_in_product = refl

sum_in_parentheses : fault (set (Ref i) (Pair Mul (f66.Group (Pair Add (Ref i) (num 1))) (num 2)) ∷ []) ≡ None
sum_in_parentheses = refl

power_of_power : fault (set (Ref i) (Pair Power (Ref i) (Pair Power (Ref i) (num 2))) ∷ []) ≡ Some Syntax
power_of_power = refl

sum_on_the_right : fault (set (Ref i) (Pair Sub (Ref i) (Pair Sub (Ref i) (num 2))) ∷ []) ≡ Some Syntax
sum_on_the_right = refl

octal : fault (Stop (Some 32768) ∷ []) ≡ Some Syntax
octal = refl

loop_under_if : fault (When (Truth true) (Loop 9 i (Constant (pos 1)) (Constant (pos 2)) (Constant (pos 1))) ∷ []) ≡ Some Syntax
loop_under_if = refl

seven : fault (set (Ref (codes "INDEXES")) (num 1) ∷ []) ≡ Some NameTooLong
seven = refl

real : fault (set (Ref i) (Ref (codes "X")) ∷ []) ≡ Some OutOfProfileType
real = refl

real_type : fault (Typed Other (scalar i ∷ []) ∷ []) ≡ Some OutOfProfileType
real_type = refl

-- REAL I and REAL K(10) are at fault there alone, and their values clash with nothing
abbrev reals : Act
reals = Typed Other (scalar i ∷ sized k 10 ∷ [])

real_stored : fault (reals ∷ set (Ref i) (Truth true) ∷ []) ≡ None
real_stored = refl

real_tested : fault (reals ∷ When (Pair And (Ref i) (with_one k (num 1))) Continue ∷ []) ≡ None
real_tested = refl

-- a sum is an integer
real_added : fault (reals ∷ logical ∷ set (Ref l) (Pair Add (Ref i) (num 1)) ∷ []) ≡ Some TypeClash
real_added = refl

real_sized : fault (Typed Other (scalar k ∷ []) ∷ array ∷ []) ≡ None
real_sized = refl

-- a declaration counts for the whole unit
declared_later : fault (Typed Integer (scalar (codes "X") ∷ []) ∷ set (Ref i) (Ref (codes "X")) ∷ []) ≡ None
declared_later = refl

logical_sum : fault (logical ∷ set (Ref i) (Pair Add (Ref l) (num 1)) ∷ []) ≡ Some TypeClash
logical_sum = refl

logical_value : fault (logical ∷ set (Ref l) (Pair And (Ref l) (Not (Pair Lt (Ref i) (num 1)))) ∷ []) ≡ None
logical_value = refl

logical_subscript : fault (logical ∷ array ∷ set (with_one k (Ref l)) (num 1) ∷ []) ≡ Some TypeClash
logical_subscript = refl

product_in_subscript : fault (array ∷ set (with_one k (Pair Add (Pair Mul (num 2) (Ref i)) (Pair Mul (Ref i) (num 2)))) (num 1) ∷ []) ≡ Some TypeClash
product_in_subscript = refl

whole_array : fault (array ∷ set (Ref i) (Pair Add (Ref k) (num 1)) ∷ []) ≡ Some TypeClash
whole_array = refl

integer_condition : fault (When (Ref i) Continue ∷ []) ≡ Some TypeClash
integer_condition = refl

index_of_jump : fault (array ∷ Computed (10 ∷ []) k ∷ []) ≡ Some TypeClash
index_of_jump = refl

function_as_item : fault (Write (Constant (pos 6)) 9 (AndEntry (One (with_one (codes "IABS") (Ref i))) NoEntry) ∷ []) ≡ Some TypeClash
function_as_item = refl

two_subscripts : fault (array ∷ set (with_two k (num 1) (num 1)) (num 1) ∷ []) ≡ Some WrongCount
two_subscripts = refl

one_argument : fault (set (Ref i) (with_one (codes "MOD") (Ref i)) ∷ []) ≡ Some WrongCount
one_argument = refl

no_dimension : fault (Dimension (scalar k ∷ []) ∷ []) ≡ Some WrongCount
no_dimension = refl

sized_twice : fault (Typed Integer (sized k 3 ∷ []) ∷ array ∷ []) ≡ Some DuplicateName
sized_twice = refl

typed_then_sized : fault (Typed Integer (scalar k ∷ []) ∷ array ∷ []) ≡ None
typed_then_sized = refl

typed_twice : fault (Typed Integer (scalar k ∷ scalar k ∷ []) ∷ []) ≡ Some DuplicateName
typed_twice = refl

-- MOD is a variable first
variable_as_function : fault (set (Ref (codes "MOD")) (num 1) ∷ set (Ref i) (with_two (codes "MOD") (Ref i) (num 2)) ∷ []) ≡ Some DuplicateName
variable_as_function = refl

both_classes : fault (set (Ref (codes "MOD")) (with_two (codes "MOD") (Ref i) (num 2)) ∷ []) ≡ Some DuplicateName
both_classes = refl

no_places : fault (Dimension (sized k 0 ∷ []) ∷ []) ≡ Some BadConstant
no_places = refl

adjustable : fault (Dimension (record { name = k; sizes = Named i ∷ [] } ∷ []) ∷ []) ≡ Some BadConstant
adjustable = refl

wide : fault (Format (Single 1 (Takes edits.Whole 133) NoField) ∷ []) ≡ Some BadFormat
wide = refl

-- ---- formats ----

abbrev format : Fields → Option Rule
format fs = fault (Format fs ∷ [])

abbrev whole : ℕ → ℕ → Fields
whole n w = Single n (Takes edits.Whole w) NoField

many_fields : format (whole 999 132) ≡ None
many_fields = refl

more_fields : format (whole 1000 132) ≡ Some BadFormat
more_fields = refl

no_fields : format (whole 0 5) ≡ Some BadFormat
no_fields = refl

no_width : format (whole 1 0) ≡ Some BadFormat
no_width = refl

no_blanks : format (Single 1 (Blanks 0) NoField) ≡ Some BadFormat
no_blanks = refl

many_blanks : format (Single 1 (Blanks 255) (Single 1 Slash NoField)) ≡ None
many_blanks = refl

more_blanks : format (Single 1 Slash (Single 1 (Blanks 256) NoField)) ≡ Some BadFormat
more_blanks = refl

no_characters : format (Single 1 (Chars []) NoField) ≡ Some BadFormat
no_characters = refl

control_character : format (Group 1 (Single 1 (Chars (10 ∷ [])) NoField) NoField) ≡ Some Syntax
control_character = refl

two_groups_deep : format (Group 2 (Group 3 (whole 1 5) NoField) (whole 1 5)) ≡ None
two_groups_deep = refl

three_groups_deep : format (Group 2 (Group 3 (Group 1 (whole 1 5) NoField) NoField) (whole 1 5)) ≡ Some BadFormat
three_groups_deep = refl

many_groups : format (Group 1000 (whole 1 5) NoField) ≡ Some BadFormat
many_groups = refl

empty_format : format NoField ≡ None
empty_format = refl

-- ---- lists ----

abbrev read : Entry → Act
read e = Read (Constant (pos 5)) 9 (AndEntry e NoEntry)

abbrev write : Entry → Act
write e = Write (Constant (pos 6)) 9 (AndEntry e NoEntry)

-- (e,x=1,n)
abbrev counted : Formula → Text → Entry
counted e x = Many (AndEntry (One e) NoEntry) x (Constant (pos 1)) (Named (codes "N")) (Constant (pos 1))

read_array : fault (array ∷ read (One (Ref k)) ∷ []) ≡ None
read_array = refl

write_array : fault (array ∷ write (One (Ref k)) ∷ []) ≡ None
write_array = refl

-- ((K(I),I=1,N),J=1,N)
read_counted : fault (array ∷ read (Many (AndEntry (counted (with_one k (Ref i)) i) NoEntry) (codes "J") (Constant (pos 1)) (Constant (pos 2)) (Constant (pos 1))) ∷ []) ≡ None
read_counted = refl

no_item_counted : fault (read (Many NoEntry i (Constant (pos 1)) (Constant (pos 2)) (Constant (pos 1))) ∷ []) ≡ Some Syntax
no_item_counted = refl

constant_as_item : fault (write (One (num 1)) ∷ []) ≡ Some Syntax
constant_as_item = refl

read_function : fault (read (One (with_one k (num 1))) ∷ []) ≡ Some NotAssignable
read_function = refl

write_function : fault (write (One (with_one k (num 1))) ∷ []) ≡ Some TypeClash
write_function = refl

function_is_built : is_built (write (One (with_one k (num 1))) ∷ []) ≡ true
function_is_built = refl

logical_subscript_of_item : fault (logical ∷ array ∷ read (counted (with_one k (Ref l)) i) ∷ []) ≡ Some TypeClash
logical_subscript_of_item = refl

array_as_item_counter : fault (array ∷ write (counted (Ref i) k) ∷ []) ≡ Some NotAssignable
array_as_item_counter = refl

logical_item_counter : fault (logical ∷ read (counted (Ref i) l) ∷ []) ≡ Some TypeClash
logical_item_counter = refl

logical_unit : fault (logical ∷ Read (Named l) 9 NoEntry ∷ []) ≡ Some TypeClash
logical_unit = refl

real_item : fault (write (counted (Ref (codes "X")) i) ∷ []) ≡ Some OutOfProfileType
real_item = refl

subscripts_of_item : fault (array ∷ read (One (with_two k (num 1) (num 1))) ∷ []) ≡ Some WrongCount
subscripts_of_item = refl

-- ---- stores, sizes and what is built ----

array_as_target : fault (array ∷ set (Ref k) (num 1) ∷ []) ≡ Some NotAssignable
array_as_target = refl

function_as_target : fault (set (with_one k (num 1)) (num 1) ∷ []) ≡ Some NotAssignable
function_as_target = refl

array_as_counter : fault (array ∷ Loop 9 k (Constant (pos 1)) (Constant (pos 2)) (Constant (pos 1)) ∷ []) ≡ Some NotAssignable
array_as_counter = refl

many_places : fault (Dimension (sized k 32768 ∷ []) ∷ []) ≡ Some LargeArray
many_places = refl

function_unbuilt : is_built (set (Ref i) (with_one k (num 1)) ∷ []) ≡ false
function_unbuilt = refl

target_built : is_built (set (with_one k (num 1)) (num 1) ∷ []) ≡ true
target_built = refl

call_unbuilt : is_built (When (Truth true) (Invoke k NoFormula) ∷ []) ≡ false
call_unbuilt = refl

-- ---- adjustable dimensions ----

-- K(N) in a subroutine of these dummies
abbrev adjusted : List Text → Act → Option Rule
adjusted dummies a = fault_under (SubUnit (codes "SUB") dummies) (a ∷ [])

abbrev by_name : Text → Act
by_name n = Dimension (record { name = k; sizes = Named n ∷ [] } ∷ [])

dummy_size : adjusted (k ∷ codes "N" ∷ []) (by_name (codes "N")) ≡ None
dummy_size = refl

own_size : adjusted (k ∷ []) (by_name (codes "N")) ≡ Some BadConstant
own_size = refl

own_array : adjusted (codes "N" ∷ []) (by_name (codes "N")) ≡ Some BadConstant
own_array = refl
