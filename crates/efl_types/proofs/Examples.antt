-- The rules of types on small procedures, by computation. A text's first line is that of `procedure`.
use Rattle.std.proofs.Common.{◌≡◌, refl}
use Rattle.std.specs.Prelude.{ℕ, true, List, [], ◌∷◌, Option, Some, None, option_map, codes}
use Rattle.ground.specs.declared.fault.FaultKind.{FaultKind}
use Rattle.ground.specs.declared.fault.FaultKind.TheVariants.{OutOfProfileType, TypeClash, WrongCount, MissingUnit}
use Rattle.efl_tree.specs.declared.expression.EflOperator.TheVariants.{Add, Lt, AndThen}
use Rattle.efl_tree.specs.Syntax.{Text, EflExpr, Truth, At, Call, Group, Not, Up, Pair, Assign, NoExpr, EflPlace, Path, NoStep, Member, Overlay, EflVar, EflType, Integer, Logical, Named, NoGroup, Implicit, Variables, Structure, EflDecl, EflStmt, Act, EflProcedure}
use Rattle.efl_scope.proofs.ExampleTexts.{num, exprs, at, item, from, member, scalars, up_to, between, sized, decl, declare, group, stmt, set, procedure, main, program}
use Rattle.efl_types.specs.TypeRules.{first_fault}

-- the kind, the line and the limit of the first fault
abbrev pub fault : List EflProcedure → Option (FaultKind × ℕ × ℕ)
fault us = option_map (λ f. (f.kind, f.place.line, f.number)) (first_fault (program us))

abbrev pub told : FaultKind → ℕ → Option (FaultKind × ℕ × ℕ)
told k n = Some (k, n, 0)

abbrev pub a : Text
a = codes "A"

abbrev pub b : Text
b = codes "B"

abbrev pub f : Text
f = codes "F"

abbrev pub k : Text
k = codes "K"

abbrev pub l : Text
l = codes "L"

abbrev pub m : Text
m = codes "M"

abbrev pub p : Text
p = codes "P"

abbrev pub s : Text
s = codes "S"

abbrev pub x : Text
x = codes "X"

abbrev pub arrays : ℕ → EflType → List EflVar → EflDecl
arrays n t vs = decl n (Variables None t vs)

-- On line 2: integer a(3); logical l; struct s { integer m; logical b(2) }; s x. Then one statement on line 3 of a main, with these
-- procedures: subroutine p, integer f of an integer, integer function g of an array b, logical function h without formals.
abbrev pub declared : List EflDecl
declared =
    arrays 2 Integer (sized a (up_to 3 ∷ []) ∷ []) ∷ declare 2 Logical (l ∷ [])
    ∷ decl 2 (Structure s (group 2 Integer (scalars (m ∷ [])) (group 2 Logical (sized b (up_to 2 ∷ []) ∷ []) NoGroup)))
    ∷ declare 2 (Named s) (x ∷ []) ∷ []

abbrev pub others : List EflProcedure
others =
    procedure 11 None (Some p) [] [] []
    ∷ procedure 12 (Some Integer) (Some f) (k ∷ []) [] []
    ∷ procedure 13 (Some Integer) (Some (codes "G")) (b ∷ []) (arrays 13 Integer (sized b (record { low = None; high = None } ∷ []) ∷ []) ∷ []) []
    ∷ procedure 14 (Some Logical) (Some (codes "H")) [] [] []
    ∷ procedure 15 None (Some (codes "R")) (codes "Y" ∷ []) (decl 15 (Structure (codes "T") (group 15 Integer (scalars (k ∷ [])) (group 15 Logical (sized l (between 1 2 ∷ []) ∷ []) NoGroup))) ∷ declare 15 (Named (codes "T")) (codes "Y" ∷ []) ∷ []) [] ∷ []

abbrev pub only : EflStmt → Option (FaultKind × ℕ × ℕ)
only st = fault (main declared (st ∷ []) ∷ others)

abbrev pub sets : EflPlace → EflExpr → Option (FaultKind × ℕ × ℕ)
sets q e = only (set 3 q e)

abbrev pub name : Text → EflExpr
name y = At (at y)

abbrev pub call : Text → List EflExpr → EflExpr
call y es = At (item y es)

-- ---- names ----

integer_by_letter : sets (at k) (num 1) ≡ None
integer_by_letter = refl

real_by_letter : sets (at (codes "Z")) (num 1) ≡ told OutOfProfileType 3
real_by_letter = refl

real_clashes_with_nothing : sets (at l) (name (codes "Z")) ≡ told OutOfProfileType 3
real_clashes_with_nothing = refl

-- implicit (z) logical, then (a-z) integer: the later one counts, for the whole procedure
abbrev implied : EflType → ℕ → EflDecl
implied t c = decl 2 (Implicit ((c, 90) ∷ []) t)

later_rule : fault (main (implied Logical 90 ∷ implied Integer 65 ∷ []) (set 3 (at (codes "Z")) (num 1) ∷ []) ∷ []) ≡ None
later_rule = refl

no_letter : fault (main (decl 2 (Implicit ((90, 65) ∷ []) Integer) ∷ []) (set 3 (at (codes "Z")) (num 1) ∷ []) ∷ []) ≡ told OutOfProfileType 3
no_letter = refl

-- ---- operands ----

sum_of_logicals : sets (at k) (Pair Add (name l) (num 1)) ≡ told TypeClash 3
sum_of_logicals = refl

relation : sets (at l) (Pair AndThen (Pair Lt (name k) (num 2)) (Not (name l))) ≡ None
relation = refl

logical_to_integer : sets (at k) (Truth true) ≡ told TypeClash 3
logical_to_integer = refl

whole_array_stored : sets (at a) (num 1) ≡ told TypeClash 3
whole_array_stored = refl

structure_as_operand : sets (at k) (name x) ≡ told TypeClash 3
structure_as_operand = refl

array_in_parentheses : sets (at k) (call (codes "G") (Group (name a) ∷ [])) ≡ told TypeClash 3
array_in_parentheses = refl

assignment_inside : sets (at k) (Pair Add (num 1) (Group (Assign None (at m) (num 2)))) ≡ None
assignment_inside = refl

value_of_assignment : sets (at l) (Assign None (at k) (num 2)) ≡ told TypeClash 3
value_of_assignment = refl

sequential_store : only (stmt 3 (Act (Assign (Some AndThen) (at l) (name l)))) ≡ None
sequential_store = refl

step_of_logical : only (stmt 3 (Act (Up (at l)))) ≡ told TypeClash 3
step_of_logical = refl

-- ---- subscripts and members ----

element : sets (item a (num 2 ∷ [])) (num 1) ≡ None
element = refl

two_subscripts : sets (item a (num 1 ∷ num 2 ∷ [])) (num 1) ≡ told WrongCount 3
two_subscripts = refl

-- a wrong count of subscripts has no type: l = a(1, 2)
uncounted : sets (at l) (call a (num 1 ∷ num 2 ∷ [])) ≡ told WrongCount 3
uncounted = refl

logical_subscript : sets (item a (name l ∷ [])) (num 1) ≡ told TypeClash 3
logical_subscript = refl

members : sets (from x (member m NoStep)) (num 1) ≡ None
members = refl

member_element : sets (from x (Member b (exprs (num 1 ∷ [])) NoStep)) (Truth true) ≡ None
member_element = refl

unknown_member : sets (at k) (At (from x (member a NoStep))) ≡ told TypeClash 3
unknown_member = refl

member_of_scalar : sets (at k) (At (from l (member m NoStep))) ≡ told TypeClash 3
member_of_scalar = refl

member_of_array : sets (at k) (At (from a (member m NoStep))) ≡ told TypeClash 3
member_of_array = refl

subscripts_of_structure : sets (at k) (At (Path x (exprs (num 1 ∷ [])) (member m NoStep))) ≡ told WrongCount 3
subscripts_of_structure = refl

subscripts_of_member : sets (at k) (At (from x (Member m (exprs (num 1 ∷ [])) NoStep))) ≡ told WrongCount 3
subscripts_of_member = refl

empty_of_array : sets (at k) (Call a NoExpr) ≡ told TypeClash 3
empty_of_array = refl

-- ---- overlays ----

overlay : sets (at k) (At (Path a (exprs (num 2 ∷ [])) (Overlay s (member m NoStep)))) ≡ None
overlay = refl

overlay_of_array : sets (at k) (At (from a (Overlay s (member m NoStep)))) ≡ None
overlay_of_array = refl

-- the type on the left is one of the structure's: x of type s is none of them
overlay_of_other : sets (at k) (At (from x (Overlay s (member m NoStep)))) ≡ told TypeClash 3
overlay_of_other = refl

step_behind_call : sets (at k) (At (Path f (exprs (num 1 ∷ [])) (Overlay s (member m NoStep)))) ≡ told TypeClash 3
step_behind_call = refl

-- ---- calls ----

function : sets (at k) (call f (num 1 ∷ [])) ≡ None
function = refl

actuals_counted : sets (at k) (call f (num 1 ∷ num 2 ∷ [])) ≡ told WrongCount 3
actuals_counted = refl

actual_of_type : sets (at k) (call f (name l ∷ [])) ≡ told TypeClash 3
actual_of_type = refl

no_formals : sets (at l) (Call (codes "H") NoExpr) ≡ None
no_formals = refl

subroutine_as_value : sets (at k) (Call p NoExpr) ≡ told TypeClash 3
subroutine_as_value = refl

missing : sets (at k) (Call (codes "NOFUN") NoExpr) ≡ told MissingUnit 3
missing = refl

-- a call that isn't there clashes with nothing
missing_with_logical : sets (at l) (call (codes "NOFUN") (num 1 ∷ [])) ≡ told MissingUnit 3
missing_with_logical = refl

intrinsic : sets (at k) (call (codes "MAX") (num 1 ∷ name k ∷ num 3 ∷ [])) ≡ None
intrinsic = refl

intrinsic_counted : sets (at k) (call (codes "MIN") (num 1 ∷ [])) ≡ told WrongCount 3
intrinsic_counted = refl

-- l = abs(1, 2): it has its type whatever its operands are
intrinsic_clashes : sets (at l) (call (codes "ABS") (num 1 ∷ num 2 ∷ [])) ≡ told TypeClash 3
intrinsic_clashes = refl

-- a declared scalar before parentheses is the call, of its own type: logical f
scalar_of_other_type : fault (main (declare 2 Logical (f ∷ []) ∷ []) (set 3 (at k) (call f (num 1 ∷ [])) ∷ []) ∷ others) ≡ told TypeClash 3
scalar_of_other_type = refl

scalar_of_type : fault (main (declare 2 Integer (f ∷ []) ∷ []) (set 3 (at k) (call f (num 1 ∷ [])) ∷ []) ∷ others) ≡ None
scalar_of_type = refl

-- k = k(1), with an undeclared k that is both: a variable, and a procedure
one_name : fault (main [] (set 3 (at k) (call k (num 1 ∷ [])) ∷ []) ∷ procedure 11 (Some Integer) (Some k) (m ∷ []) [] [] ∷ []) ≡ None
one_name = refl

-- an array formal takes a whole array, or an element, whatever the bounds
array_whole : sets (at k) (call (codes "G") (name a ∷ [])) ≡ None
array_whole = refl

array_from_element : sets (at k) (call (codes "G") (call a (num 2 ∷ []) ∷ [])) ≡ None
array_from_element = refl

array_from_scalar : sets (at k) (call (codes "G") (name k ∷ [])) ≡ told TypeClash 3
array_from_scalar = refl

array_from_call : sets (at k) (call (codes "G") (call f (num 1 ∷ []) ∷ [])) ≡ told TypeClash 3
array_from_call = refl

array_of_logicals : sets (at k) (call (codes "G") (At (from x (member b NoStep)) ∷ [])) ≡ told TypeClash 3
array_of_logicals = refl

-- structures agree by their members' types, names aside
structure_actual : only (stmt 3 (Act (Call (codes "R") (exprs (name x ∷ []))))) ≡ None
structure_actual = refl

scalar_for_structure : only (stmt 3 (Act (Call (codes "R") (exprs (num 1 ∷ []))))) ≡ told TypeClash 3
scalar_for_structure = refl

-- calls as statements
invoked : only (stmt 3 (Act (Call p NoExpr))) ≡ None
invoked = refl

function_invoked : only (stmt 3 (Act (Call f (exprs (num 1 ∷ []))))) ≡ told TypeClash 3
function_invoked = refl

intrinsic_invoked : only (stmt 3 (Act (Call (codes "MIN") (exprs (num 1 ∷ num 2 ∷ []))))) ≡ told TypeClash 3
intrinsic_invoked = refl

variable_invoked : only (stmt 3 (Act (Call l (exprs (num 1 ∷ []))))) ≡ told TypeClash 3
variable_invoked = refl
