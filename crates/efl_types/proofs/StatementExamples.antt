-- The rules of statements, headers and declarations on small procedures, by computation.
use Rattle.std.proofs.Common.{◌≡◌, refl}
use Rattle.std.specs.Prelude.{ℕ, zero, suc, pos, true, false, List, [], ◌∷◌, Option, Some, None, codes}
use Rattle.ground.specs.declared.fault.FaultKind.{FaultKind}
use Rattle.ground.specs.declared.fault.FaultKind.TheVariants.{OutOfProfileType, TypeClash, WrongCount, DuplicateCase, BadConstant, MissingUnit, BadFormat, NotAssignable, Limit}
use Rattle.efl_tree.specs.declared.declaration.EflBound.{EflBound}
use Rattle.efl_tree.specs.declared.statement.EflEdit.TheVariants as edits
use Rattle.efl_tree.specs.Syntax.{Text, EflExpr, Int, Truth, At, Call, Group, Plus, Minus, Not, Up, Pair, Assign, NoExpr, EflPlace, Path, NoStep, Member, Overlay, EflVar, EflType, Integer, Logical, Named, Shape, NoGroup, Implicit, Variables, Area, Structure, EflDecl, Value, Chars, Take, EflStmt, Empty, Act, If, Repeat, RepeatUntil, Do, Switch, Return, Write, Read, NoCase, AndCase, EflProcedure}
use Rattle.efl_tree.specs.Syntax as efl
use Rattle.efl_scope.proofs.ExampleTexts.{here, num, exprs, at, item, from, up_to, between, sized, decl, declare, group, one_member, stmt, all, set, procedure, main}
use Rattle.efl_types.proofs.Examples.{fault, told, a, b, f, k, l, p, s, x, arrays, only, sets, name}

-- ---- calls where a place is wanted ----

missing_stored : sets (item (codes "NOFUN") (num 1 ∷ [])) (num 2) ≡ told MissingUnit 3
missing_stored = refl

subroutine_stored : sets (item p (num 1 ∷ [])) (num 2) ≡ told TypeClash 3
subroutine_stored = refl

miscounted_stored : sets (item f (num 1 ∷ num 2 ∷ [])) (num 3) ≡ told WrongCount 3
miscounted_stored = refl

function_stored : sets (item f (num 1 ∷ [])) (Truth true) ≡ told NotAssignable 3
function_stored = refl

intrinsic_stored : sets (item (codes "ABS") (num 1 ∷ [])) (num 2) ≡ told NotAssignable 3
intrinsic_stored = refl

function_read : only (stmt 3 (Read None (Take (item f (num 1 ∷ [])) edits.Letter ∷ []))) ≡ told NotAssignable 3
function_read = refl

-- ---- statements ----

condition : only (stmt 3 (If (name k) (stmt 4 Empty))) ≡ told TypeClash 3
condition = refl

until : only (stmt 3 (RepeatUntil (stmt 4 Empty) (num 1) (here 5))) ≡ told TypeClash 5
until = refl

selector : only (stmt 3 (Switch (name l) NoCase)) ≡ told TypeClash 3
selector = refl

logical_counter : only (stmt 3 (Do l (num 1) (num 2) None (stmt 4 Empty))) ≡ told TypeClash 3
logical_counter = refl

real_counter : only (stmt 3 (Do (codes "Z") (num 1) (num 2) None (stmt 4 Empty))) ≡ told OutOfProfileType 3
real_counter = refl

same_constant : only (stmt 3 (Switch (name k) (AndCase (pos 2 ∷ []) false (all []) (here 4) (AndCase (pos 3 ∷ pos 2 ∷ []) false (all []) (here 5) NoCase)))) ≡ told DuplicateCase 5
same_constant = refl

two_defaults : only (stmt 3 (Switch (name k) (AndCase [] true (all []) (here 4) (AndCase [] true (all []) (here 5) NoCase)))) ≡ told DuplicateCase 5
two_defaults = refl

value_of_main : only (stmt 3 (Return (Some (num 1)))) ≡ told TypeClash 3
value_of_main = refl

return_alone : fault (procedure 1 (Some Integer) (Some f) [] [] (stmt 2 (Return None) ∷ []) ∷ []) ≡ None
return_alone = refl

return_of_other : fault (procedure 1 (Some Integer) (Some f) [] [] (stmt 2 (Return (Some (Truth true))) ∷ []) ∷ []) ≡ told TypeClash 2
return_of_other = refl

-- ---- input and output ----

written : only (stmt 3 (Write None (Value (name k) (edits.Whole (pos 5)) ∷ Value (name l) (edits.Truth (pos 2)) ∷ Chars (codes "IS") ∷ efl.WriteItem.Skip (pos 1) ∷ []))) ≡ None
written = refl

edit_of_other : only (stmt 3 (Write None (Value (name l) edits.Letter ∷ []))) ≡ told TypeClash 3
edit_of_other = refl

no_width : only (stmt 3 (Write None (Value (name k) (edits.Whole (pos 0)) ∷ []))) ≡ told BadFormat 3
no_width = refl

too_wide : only (stmt 3 (Write None (Value (name k) (edits.Whole (pos 130)) ∷ Chars (codes "SUM") ∷ []))) ≡ told BadFormat 3
too_wide = refl

as_wide : only (stmt 3 (Read None (Take (at k) (edits.Whole (pos 131)) ∷ Take (at k) edits.Letter ∷ []))) ≡ None
as_wide = refl

logical_unit : only (stmt 3 (Read (Some (name l)) [])) ≡ told TypeClash 3
logical_unit = refl

-- ---- headers and declarations ----

abbrev headed : Option EflType → List Text → Option (FaultKind × ℕ × ℕ)
headed t fs = fault (procedure 1 t (Some f) fs [] [] ∷ [])

real_formal : headed None (codes "Z" ∷ []) ≡ told OutOfProfileType 1
real_formal = refl

shape_as_type : headed (Some (Shape None (one_member 1 a))) [] ≡ told TypeClash 1
shape_as_type = refl

-- so many formals of the type integer
abbrev letters : ℕ → List Text
letters zero = []
letters (suc n) = (73 ∷ n ∷ []) ∷ letters n

as_many_formals : headed None (letters 32) ≡ None
as_many_formals = refl

many_formals : headed None (letters 33) ≡ told WrongCount 1
many_formals = refl

abbrev bounds : List EflBound → Option (FaultKind × ℕ × ℕ)
bounds bs = fault (main (arrays 2 Integer (sized a bs ∷ []) ∷ []) [] ∷ [])

abbrev star : EflBound
star = record { low = None; high = None }

abbrev formal_bounds : List EflBound → Option (FaultKind × ℕ × ℕ)
formal_bounds bs = fault (procedure 1 None (Some p) (a ∷ []) (arrays 2 Integer (sized a bs ∷ []) ∷ []) [] ∷ [])

seven : bounds (up_to 1 ∷ up_to 1 ∷ up_to 1 ∷ up_to 1 ∷ up_to 1 ∷ up_to 1 ∷ up_to 1 ∷ []) ≡ None
seven = refl

eight : bounds (up_to 1 ∷ up_to 1 ∷ up_to 1 ∷ up_to 1 ∷ up_to 1 ∷ up_to 1 ∷ up_to 1 ∷ up_to 1 ∷ []) ≡ told WrongCount 2
eight = refl

turned : bounds (between 3 2 ∷ []) ≡ told BadConstant 2
turned = refl

open_variable : bounds (star ∷ []) ≡ told BadConstant 2
open_variable = refl

open_formal : formal_bounds (up_to 2 ∷ star ∷ []) ≡ None
open_formal = refl

open_first : formal_bounds (star ∷ up_to 2 ∷ []) ≡ told BadConstant 2
open_first = refl

open_member : fault (main (decl 2 (Structure s (group 3 Integer (sized a (star ∷ []) ∷ []) NoGroup)) ∷ []) [] ∷ []) ≡ told BadConstant 3
open_member = refl

as_large : bounds (up_to 32767 ∷ []) ≡ None
as_large = refl

too_large : bounds (up_to 32768 ∷ []) ≡ Some (Limit, 2, 7)
too_large = refl

-- a structure may have more places than a variable, as long as nothing has its type
abbrev wide : EflDecl
wide = decl 2 (Structure s (group 3 Integer (sized a (up_to 20000 ∷ []) ∷ sized b (up_to 20000 ∷ []) ∷ []) NoGroup))

large_shape : fault (main (wide ∷ []) [] ∷ []) ≡ None
large_shape = refl

large_variable : fault (main (wide ∷ declare 4 (Named s) (x ∷ []) ∷ []) [] ∷ []) ≡ Some (Limit, 4, 7)
large_variable = refl

-- an undeclared one is at fault where it is met, a formal at the header
large_by_letter : fault (main (wide ∷ decl 4 (Implicit ((88, 88) ∷ []) (Named s)) ∷ []) (stmt 5 Empty ∷ set 6 (from x (Member a (exprs (num 1 ∷ [])) NoStep)) (num 1) ∷ []) ∷ []) ≡ Some (Limit, 6, 7)
large_by_letter = refl

large_formal : fault (procedure 1 None (Some p) (x ∷ []) (wide ∷ decl 4 (Implicit ((88, 88) ∷ []) (Named s)) ∷ []) [] ∷ []) ≡ Some (Limit, 1, 7)
large_formal = refl

-- ---- order ----

-- a later part of an earlier procedure goes first; in one part the smaller number
by_procedures : fault (main [] (set 2 (at k) (Truth true) ∷ []) ∷ procedure 11 None (Some p) (codes "Z" ∷ []) [] [] ∷ []) ≡ told TypeClash 2
by_procedures = refl

one_part : sets (item (codes "NOFUN") (name (codes "Z") ∷ [])) (name x) ≡ told OutOfProfileType 3
one_part = refl
