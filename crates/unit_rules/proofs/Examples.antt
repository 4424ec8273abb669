-- The rules on small units, by computation.
use Rattle.std.proofs.Common.{◌≡◌, refl}
use Rattle.std.specs.Prelude.{ℕ, pos, ◌+◌, true, List, [], ◌∷◌, map, Option, Some, None, codes}
use Rattle.rule_table.specs.declared.rule.Rule.{Rule}
use Rattle.rule_table.specs.declared.rule.Rule.TheVariants.{Syntax, NameTooLong, OutOfProfileType, TypeClash, WrongCount, DuplicateName, BadConstant, NotAssignable, LargeArray}
use Rattle.rule_table.specs.FaultRules.{first_rule}
use Rattle.f66_tree.specs.declared.declaration.TypeWord.TheVariants.{Integer, Logical, Other}
use Rattle.f66_tree.specs.declared.expression.Operator.TheVariants.{Add}
use Rattle.f66_tree.specs.Syntax.{Text, Formula, Int, Truth, Letter, Ref, Item, Minus, Pair, Formulas, NoFormula, AndFormula, Constant, One, NoEntry, AndEntry, Declared, Header, MainUnit, SubUnit, FuncUnit, DataUnit, Act, Assign, When, Continue, Read, Write, Typed, Dimension, Invoke, Common, Equivalence, Preset}
use Rattle.f66_names.specs.Declaring.{context_by}
use Rattle.unit_rules.specs.Heads.{breaks_header}
use Rattle.unit_rules.specs.UnitRules.{breaks_rule}

-- the first rule that the last of some statements breaks
abbrev last : List Act → ℕ × Act
last [] = (0, Continue)
last (a ∷ []) = (0, a)
last (a ∷ b ∷ rest) = ((last (b ∷ rest)).0 + 1, (last (b ∷ rest)).1)

abbrev fault : Header → List Act → Option Rule
fault h acts = let at = last acts in first_rule (breaks_rule (context_by h acts) acts at.0 at.1)

abbrev of_main : List Act → Option Rule
of_main acts = fault MainUnit acts

abbrev of_header : Header → List Act → Option Rule
of_header h acts = first_rule (breaks_header (context_by h acts))

abbrev num : ℕ → Formula
num z = Int (pos z)

abbrev i : Text
i = codes "I"

abbrev k : Text
k = codes "K"

abbrev n : Text
n = codes "N"

abbrev s : Text
s = codes "S"

abbrev x : Text
x = codes "X"

abbrev one : Formula → Formulas
one a = AndFormula a NoFormula

abbrev declared : Text → Declared
declared y = record { name = y; sizes = [] }

-- I = N(K)
abbrev referred : Act
referred = Assign (Ref i) (Item n (one (Ref k)))

function : of_main (referred ∷ []) ≡ None
function = refl

logical_function : of_main (Typed Logical (declared n ∷ []) ∷ referred ∷ []) ≡ Some TypeClash
logical_function = refl

real_function : of_main (Assign (Ref i) (Item x (one (Ref k))) ∷ []) ≡ Some OutOfProfileType
real_function = refl

function_and_variable : of_main (referred ∷ Assign (Ref n) (num 1) ∷ []) ≡ Some DuplicateName
function_and_variable = refl

variable_and_function : of_main (Assign (Ref n) (num 1) ∷ referred ∷ []) ≡ Some DuplicateName
variable_and_function = refl

-- K(MOD(1)), and with a name and a function in the parentheses, where K is no array
abbrev unplaced : Formulas → Formula
unplaced es = Item k es

abbrev lone_mod : Formulas
lone_mod = one (Item (codes "MOD") (one (num 1)))

stored : of_main (Assign (unplaced lone_mod) (num 2) ∷ []) ≡ Some NotAssignable
stored = refl

read_into : of_main (Read (Constant (pos 5)) 1 (AndEntry (One (unplaced lone_mod)) NoEntry) ∷ []) ≡ Some NotAssignable
read_into = refl

written : of_main (Write (Constant (pos 6)) 1 (AndEntry (One (unplaced lone_mod)) NoEntry) ∷ []) ≡ Some TypeClash
written = refl

counted_in_value : of_main (Assign (unplaced (one (num 1))) (Item (codes "MOD") (one (num 1))) ∷ []) ≡ Some WrongCount
counted_in_value = refl

no_class : of_main (Assign (unplaced (one (Ref n))) (num 2) ∷ referred ∷ []) ≡ None
no_class = refl

long_inside : of_main (Assign (unplaced (one (Ref (codes "INDEXES")))) (num 2) ∷ []) ≡ Some NameTooLong
long_inside = refl

real_inside : of_main (Assign (unplaced (one (Ref x))) (num 2) ∷ []) ≡ Some OutOfProfileType
real_inside = refl

-- CALL S(1HA), and CALL S
letter : of_main (Invoke s (one (Letter 65)) ∷ []) ≡ None
letter = refl

tab : of_main (Invoke s (one (Letter 9)) ∷ []) ≡ Some Syntax
tab = refl

alone : of_main (Invoke s NoFormula ∷ []) ≡ None
alone = refl

letter_of_function : of_main (Assign (Ref i) (Item n (one (Letter 65))) ∷ []) ≡ Some Syntax
letter_of_function = refl

under_if : of_main (When (Truth true) (Invoke s (one (Ref x))) ∷ []) ≡ Some OutOfProfileType
under_if = refl

long_call : of_main (Invoke (codes "SUBROUT") NoFormula ∷ []) ≡ Some NameTooLong
long_call = refl

-- an array as an argument, and in a sum
abbrev array : Act
array = Dimension (record { name = k; sizes = Constant (pos 10) ∷ [] } ∷ [])

whole : of_main (array ∷ Invoke s (one (Ref k)) ∷ []) ≡ None
whole = refl

whole_in_sum : of_main (array ∷ Invoke s (one (Pair Add (Ref k) (num 1))) ∷ []) ≡ Some TypeClash
whole_in_sum = refl

argument_count : of_main (Invoke s (one (Item (codes "MOD") (one (num 7)))) ∷ []) ≡ Some WrongCount
argument_count = refl

call_and_variable : of_main (Invoke n NoFormula ∷ Assign (Ref n) (num 1) ∷ []) ≡ Some DuplicateName
call_and_variable = refl

both_ways : of_main (Invoke n (one (Ref n)) ∷ []) ≡ Some DuplicateName
both_ways = refl

typed_call : of_main (Typed Integer (declared n ∷ []) ∷ Invoke n NoFormula ∷ []) ≡ Some DuplicateName
typed_call = refl

array_call : of_main (array ∷ Invoke k NoFormula ∷ []) ≡ Some DuplicateName
array_call = refl

-- a unit's own name: SUBROUTINE N, and FUNCTION N(K)
abbrev subroutine : Header
subroutine = SubUnit n []

abbrev own_function : Header
own_function = FuncUnit None n (k ∷ [])

calls_itself : fault subroutine (Invoke n NoFormula ∷ []) ≡ None
calls_itself = refl

stores_itself : fault subroutine (Assign (Ref n) (num 1) ∷ []) ≡ Some DuplicateName
stores_itself = refl

typed_itself : fault subroutine (Typed Integer (declared n ∷ []) ∷ []) ≡ Some DuplicateName
typed_itself = refl

gives_value : fault own_function (Assign (Ref n) (Ref k) ∷ []) ≡ None
gives_value = refl

refers_to_itself : fault own_function (referred ∷ []) ≡ Some DuplicateName
refers_to_itself = refl

types_itself : fault own_function (Typed Logical (declared n ∷ []) ∷ []) ≡ None
types_itself = refl

settled : fault (FuncUnit (Some Integer) n (k ∷ [])) (Typed Integer (declared n ∷ []) ∷ []) ≡ Some DuplicateName
settled = refl

dummy_function : fault (SubUnit s (n ∷ [])) (referred ∷ []) ≡ Some DuplicateName
dummy_function = refl

-- headers
no_dummy : of_header (FuncUnit None n []) [] ≡ Some Syntax
no_dummy = refl

long_dummy : of_header (SubUnit s (codes "INDEXES" ∷ [])) [] ≡ Some NameTooLong
long_dummy = refl

real_subroutine : of_header (SubUnit x (k ∷ [])) [] ≡ None
real_subroutine = refl

real_dummy : of_header (SubUnit s (x ∷ [])) [] ≡ Some OutOfProfileType
real_dummy = refl

typed_dummy : of_header (SubUnit s (x ∷ [])) (Typed Integer (declared x ∷ []) ∷ []) ≡ None
typed_dummy = refl

real_value : of_header (FuncUnit None x (k ∷ [])) [] ≡ Some OutOfProfileType
real_value = refl

real_type : of_header (FuncUnit (Some Other) n (k ∷ [])) [] ≡ Some OutOfProfileType
real_type = refl

twice : of_header (SubUnit s (k ∷ k ∷ [])) [] ≡ Some DuplicateName
twice = refl

own_dummy : of_header (SubUnit k (k ∷ [])) [] ≡ Some DuplicateName
own_dummy = refl

block_data : of_header DataUnit [] ≡ None
block_data = refl

-- COMMON K, and COMMON /N/ K
abbrev sized : Text → List ℕ → Declared
sized y ns = record { name = y; sizes = map (λ n. Constant (pos n)) ns }

abbrev blank : List Declared → Act
blank ds = Common (record { name = None; list = ds } ∷ [])

abbrev labelled : Text → List Declared → Act
labelled y ds = Common (record { name = Some y; list = ds } ∷ [])

in_common : of_main (blank (declared k ∷ sized n (3 ∷ []) ∷ []) ∷ []) ≡ None
in_common = refl

own_block : of_main (labelled k (declared k ∷ []) ∷ []) ≡ None
own_block = refl

real_common : of_main (blank (declared x ∷ []) ∷ []) ≡ Some OutOfProfileType
real_common = refl

many_common : of_main (blank (sized n (1 ∷ 1 ∷ 1 ∷ 1 ∷ []) ∷ []) ∷ []) ≡ Some WrongCount
many_common = refl

twice_common : of_main (blank (declared k ∷ []) ∷ labelled n (declared k ∷ []) ∷ []) ≡ Some DuplicateName
twice_common = refl

sized_twice : of_main (array ∷ blank (sized k (3 ∷ []) ∷ []) ∷ []) ≡ Some DuplicateName
sized_twice = refl

common_dummy : fault (SubUnit s (k ∷ [])) (blank (declared k ∷ []) ∷ []) ≡ Some DuplicateName
common_dummy = refl

common_function : of_main (blank (declared n ∷ []) ∷ referred ∷ []) ≡ Some DuplicateName
common_function = refl

large_common : of_main (blank (sized k (32768 ∷ []) ∷ []) ∷ []) ≡ Some LargeArray
large_common = refl

-- EQUIVALENCE (I,K(2)) with and without DIMENSION K(10)
abbrev equated : Formula → Formula → Act
equated a b = Equivalence ((a ∷ b ∷ []) ∷ [])

element : of_main (array ∷ equated (Ref i) (Item k (one (num 20))) ∷ []) ≡ None
element = refl

lone : of_main (Equivalence ((Ref i ∷ []) ∷ []) ∷ []) ≡ Some Syntax
lone = refl

no_element : of_main (equated (Ref i) (Item k (one (num 2))) ∷ []) ≡ Some TypeClash
no_element = refl

signed_element : of_main (array ∷ equated (Ref i) (Item k (one (Minus (num 2)))) ∷ []) ≡ Some TypeClash
signed_element = refl

many_subscripts : of_main (array ∷ equated (Ref i) (Item k (AndFormula (num 1) (one (num 2)))) ∷ []) ≡ Some WrongCount
many_subscripts = refl

variable_subscript : of_main (array ∷ equated (Ref i) (Item k (one (Ref n))) ∷ []) ≡ Some BadConstant
variable_subscript = refl

-- DATA I,K(2)/1,2/
abbrev given : Formula → List (ℕ × Formula) → Act
given a vs = Preset (record { places = a ∷ []; values = vs } ∷ [])

value : of_main (given (Ref i) ((1, Minus (num 2)) ∷ []) ∷ []) ≡ None
value = refl

too_many : of_main (given (Ref i) ((2, num 2) ∷ []) ∷ []) ≡ Some WrongCount
too_many = refl

no_count : of_main (Preset (record { places = Ref i ∷ []; values = (1, num 2) ∷ (0, num 2) ∷ [] } ∷ []) ∷ []) ≡ Some BadConstant
no_count = refl

other_type : of_main (given (Ref i) ((1, Truth true) ∷ []) ∷ []) ≡ Some BadConstant
other_type = refl

whole_array : of_main (array ∷ given (Ref k) ((1, num 2) ∷ []) ∷ []) ≡ Some NotAssignable
whole_array = refl

past_bounds : of_main (array ∷ given (Item k (one (num 11))) ((1, num 2) ∷ []) ∷ []) ≡ Some NotAssignable
past_bounds = refl

within_bounds : of_main (array ∷ given (Item k (one (num 10))) ((1, num 2) ∷ []) ∷ []) ≡ None
within_bounds = refl

no_classes : of_main (given (Item n (one (Item (codes "MOD") (one (num 1))))) ((1, num 2) ∷ []) ∷ []) ≡ Some NotAssignable
no_classes = refl

blank_value : fault DataUnit (blank (declared i ∷ []) ∷ given (Ref i) ((1, num 2) ∷ []) ∷ []) ≡ Some NotAssignable
blank_value = refl

labelled_value : of_main (labelled s (declared i ∷ []) ∷ given (Ref i) ((1, num 2) ∷ []) ∷ []) ≡ Some NotAssignable
labelled_value = refl

block_data_value : fault DataUnit (labelled s (declared i ∷ []) ∷ given (Ref i) ((1, num 2) ∷ []) ∷ []) ≡ None
block_data_value = refl

dummy_value : fault (SubUnit s (i ∷ [])) (given (Ref i) ((1, num 2) ∷ []) ∷ []) ≡ Some NotAssignable
dummy_value = refl
