-- Small texts as trees: that the checks accept them, and what they then write, by computation.
use Rattle.std.proofs.Common.{◌≡◌, refl}
use Rattle.std.specs.Prelude.{ℕ, pos, true, false, List, [], ◌∷◌, Option, Some, None, codes}
use Rattle.std.specs.List.{slice_get}
use Rattle.std.specs.Option.{option_or}
use Rattle.std.specs.Fmt.{digits}
use Rattle.ground.specs.declared.fault.Fault.{Fault}
use Rattle.ground.specs.declared.trap.Trap.TheVariants.{Subscript, ValueArgument}
use Rattle.ground.specs.declared.value.Kind.TheVariants as kinds
use Rattle.f66_tree.specs.World.{Record, Shown, Ended, Done, Trapped}
use Rattle.efl_tree.specs.declared.declaration.EflConst.{EflConst}
use Rattle.efl_tree.specs.declared.declaration.EflConst.TheVariants as constants
use Rattle.efl_tree.specs.declared.expression.EflOperator.TheVariants.{Add, Ne}
use Rattle.efl_tree.specs.declared.statement.EflEdit.TheVariants as edits
use Rattle.efl_tree.specs.Syntax.{Text, EflExpr, Int, Truth, At, Call, Plus, Up, Pair, Assign, NoExpr, EflPlace, Path, EflSteps, NoStep, Member, Overlay, EflVar, EflType, Integer, Logical, Named, NoGroup, Initial, Variables, Structure, EflDecl, EflPreset, WriteItem, Value, Chars, Take, EflStmt, Block, Act, While, Return, Write, Read, EflProcedure}
use Rattle.efl_tree.specs.Syntax as efl
use Rattle.efl_scope.specs.DataTypes.{DataType, Scalar, Structured, Array, NoType, NoMember, AndMember}
use Rattle.efl_scope.specs.FirstFault as scopes
use Rattle.efl_types.specs.Presets.{offset}
use Rattle.efl_types.specs.TypeRules as types
use Rattle.efl_scope.proofs.ExampleTexts.{here, num, exprs, at, item, from, member, scalars, up_to, sized, decl, declare, group, area, stmt, set, block, procedure, main, program}
use Rattle.efl_program.specs.Places.{ToMember, ToElement, paths}
use Rattle.efl_typed.specs.Typing.{sort_of}
use Rattle.efl_typed.specs.Linking.{efl_meaning}
use Rattle.efl_typed.specs.PlacePaths.{path_of}

abbrev fault : List EflProcedure → Option Fault
fault us = option_or (scopes.first_fault (program us)) (types.first_fault (program us))

abbrev run : List EflProcedure → List Record → Shown
run us input = efl_meaning (program us) 20 input

abbrev a : Text
a = codes "A"

abbrev b : Text
b = codes "B"

abbrev k : Text
k = codes "K"

abbrev n : Text
n = codes "N"

abbrev s : Text
s = codes "S"

abbrev x : Text
x = codes "X"

abbrev name : Text → EflExpr
name y = At (at y)

abbrev shown : ℕ → List WriteItem → EflStmt
shown line items = stmt line (Write None items)

abbrev whole : EflExpr → ℕ → WriteItem
whole e w = Value e (edits.Whole (pos w))

abbrev minus_one : EflExpr
minus_one = efl.Minus (num 1)

-- integer k / k = 3 / up(k) / write( , k:i(3)) / up(4), where up has an integer n, and ++n on line 10
abbrev by_reference : List EflProcedure
by_reference =
    main (declare 2 Integer (k ∷ []) ∷ []) (set 3 (at k) (num 3) ∷ stmt 4 (Act (Call (codes "UP") (exprs (name k ∷ [])))) ∷ shown 5 (whole (name k) 3 ∷ []) ∷ stmt 6 (Act (Call (codes "UP") (exprs (num 4 ∷ [])))) ∷ [])
    ∷ procedure 8 None (Some (codes "UP")) (n ∷ []) (declare 9 Integer (n ∷ []) ∷ []) (stmt 10 (Act (Up (at n))) ∷ []) ∷ []

by_reference_accepted : fault by_reference ≡ None
by_reference_accepted = refl

by_reference_writes : (run by_reference []).records ≡ codes "  4" ∷ []
unfolding digits
by_reference_writes = refl

by_reference_ends : (run by_reference []).end ≡ Ended (Trapped ValueArgument (here 10))
unfolding digits
by_reference_ends = refl

-- integer a(3) / a(2) = 5 / a(f(1)) += 2 / write( , a(2):i(4)), where f writes and gives k + 1
abbrev call_in_place : List EflProcedure
call_in_place =
    main (decl 2 (Variables None Integer (sized a (up_to 3 ∷ []) ∷ [])) ∷ [])
    (set 3 (item a (num 2 ∷ [])) (num 5) ∷ stmt 4 (Act (Assign (Some Add) (item a (At (item (codes "F") (num 1 ∷ [])) ∷ [])) (num 2))) ∷ shown 5 (whole (At (item a (num 2 ∷ []))) 4 ∷ []) ∷ [])
    ∷ procedure 7 (Some Integer) (Some (codes "F")) (k ∷ []) (declare 8 Integer (k ∷ []) ∷ []) (shown 9 (Chars (codes "f") ∷ []) ∷ stmt 10 (Return (Some (Pair Add (name k) (num 1)))) ∷ []) ∷ []

call_in_place_accepted : fault call_in_place ≡ None
call_in_place_accepted = refl

call_in_place_writes : (run call_in_place []).records ≡ codes "f" ∷ codes "   7" ∷ []
unfolding digits
call_in_place_writes = refl

-- struct s { integer k; integer c(5); logical f } / s x(3): the last line reads x(1).c(6), which lies inside x
abbrev its : ℕ → EflSteps → EflPlace
its i steps = Path x (exprs (num i ∷ [])) steps

abbrev its_c : EflExpr → EflSteps
its_c e = Member (codes "C") (exprs (e ∷ [])) NoStep

abbrev structures : List EflProcedure
structures =
    main (decl 2 (Structure s (group 2 Integer (scalars (k ∷ [])) (group 2 Integer (sized (codes "C") (up_to 5 ∷ []) ∷ []) (group 2 Logical (scalars (codes "F" ∷ [])) NoGroup))))
    ∷ decl 3 (Variables None (Named s) (sized x (up_to 3 ∷ []) ∷ [])) ∷ declare 4 Integer (n ∷ []) ∷ [])
    (set 5 (at n) (num 5) ∷ set 6 (its 1 (its_c (name n))) (num 7) ∷ set 7 (its 2 (member (codes "F") NoStep)) (Truth true)
    ∷ shown 8 (whole (At (its 1 (its_c (name n)))) 4 ∷ Value (At (its 2 (member (codes "F") NoStep))) (edits.Truth (pos 2)) ∷ [])
    ∷ set 9 (at n) (num 6) ∷ set 10 (at n) (At (its 1 (its_c (name n)))) ∷ []) ∷ []

structures_accepted : fault structures ≡ None
structures_accepted = refl

structures_write : (run structures []).records ≡ codes "   7 T" ∷ []
unfolding digits
structures_write = refl

structures_end : (run structures []).end ≡ Ended (Trapped Subscript (here 10))
unfolding digits
structures_end = refl

-- a list in an array: struct node { integer nextindex; integer item } / initial list = (7, 10, 0, 30, 2 $ 0, 3, 20)
abbrev entry : ℕ → ℕ × EflConst
entry z = (1, constants.Int (pos z))

abbrev its_node : Text → EflExpr
its_node m = At (Path (codes "LIST") (exprs (name (codes "P") ∷ [])) (Overlay (codes "NODE") (member m NoStep)))

abbrev linked : List EflProcedure
linked =
    main (decl 2 (Structure (codes "NODE") (group 2 Integer (scalars (codes "NEXTINDEX" ∷ [])) (group 2 Integer (scalars (codes "ITEM" ∷ [])) NoGroup)))
    ∷ decl 3 (Variables None Integer (sized (codes "LIST") (up_to 20 ∷ []) ∷ sized (codes "P") [] ∷ sized n [] ∷ []))
    ∷ decl 4 (Initial (record { place = at (codes "LIST"); values = entry 7 ∷ entry 10 ∷ entry 0 ∷ entry 30 ∷ (2, constants.Int (pos 0)) ∷ entry 3 ∷ entry 20 ∷ []; listed = true } ∷ [])) ∷ [])
    (set 5 (at (codes "P")) (num 1)
    ∷ stmt 6 (While (Pair Ne (name (codes "P")) (num 0)) (block 6 [] (set 7 (at n) (its_node (codes "ITEM")) ∷ shown 8 (whole (name n) 4 ∷ []) ∷ set 9 (at (codes "P")) (its_node (codes "NEXTINDEX")) ∷ []))) ∷ []) ∷ []

linked_accepted : fault linked ≡ None
linked_accepted = refl

linked_writes : (run linked []).records ≡ codes "  10" ∷ codes "  20" ∷ codes "  30" ∷ []
unfolding digits
linked_writes = refl

-- struct p { integer a; integer b } / x(3) = 1 / write( , x(3) -> p.a:i(2)) / x(3) -> p.b = 2
abbrev laid : Text → EflPlace
laid m = Path x (exprs (num 3 ∷ [])) (Overlay (codes "P") (member m NoStep))

abbrev past_the_end : List EflProcedure
past_the_end =
    main (decl 2 (Structure (codes "P") (group 2 Integer (scalars (a ∷ b ∷ [])) NoGroup)) ∷ decl 3 (Variables None Integer (sized x (up_to 3 ∷ []) ∷ [])) ∷ [])
    (set 4 (item x (num 3 ∷ [])) (num 1) ∷ shown 5 (whole (At (laid a)) 2 ∷ []) ∷ set 6 (laid b) (num 2) ∷ []) ∷ []

past_the_end_writes : (run past_the_end []).records ≡ codes " 1" ∷ []
unfolding digits
past_the_end_writes = refl

past_the_end_ends : (run past_the_end []).end ≡ Ended (Trapped Subscript (here 6))
unfolding digits
past_the_end_ends = refl

-- read( , k:c, :x(2), n:i(3)) and write( , k:i(3), :x(1), k:c, n:i(4)) over the record `A  042`
abbrev reading : List EflProcedure
reading =
    main (declare 2 Integer (k ∷ n ∷ []) ∷ [])
    (stmt 3 (Read None (Take (at k) edits.Letter ∷ efl.ReadItem.Skip (pos 2) ∷ Take (at n) (edits.Whole (pos 3)) ∷ []))
    ∷ shown 4 (whole (name k) 3 ∷ efl.WriteItem.Skip (pos 1) ∷ Value (name k) edits.Letter ∷ whole (name n) 4 ∷ []) ∷ []) ∷ []

reading_writes : (run reading (codes "A  042" ∷ [])).records ≡ codes " 65 A  42" ∷ []
unfolding digits
reading_writes = refl

-- an area, filled in one procedure and read under other names in another; and an inner variable that hides an outer one
abbrev areas : List EflProcedure
areas =
    main (area 2 (codes "Q") Integer (scalars (a ∷ b ∷ [])) ∷ decl 3 (Initial (record { place = at b; values = entry 5 ∷ []; listed = false } ∷ [])) ∷ declare 4 Integer (k ∷ []) ∷ [])
    (set 5 (at k) (num 1) ∷ set 6 (at a) (num 3)
    ∷ block 7 (declare 8 Integer (k ∷ []) ∷ []) (set 9 (at k) (num 2) ∷ shown 10 (whole (name k) 2 ∷ []) ∷ [])
    ∷ shown 11 (whole (name k) 2 ∷ []) ∷ stmt 12 (Act (Call s NoExpr)) ∷ [])
    ∷ procedure 14 None (Some s) [] (area 15 (codes "Q") Integer (scalars (n ∷ k ∷ [])) ∷ []) (shown 16 (whole (name n) 2 ∷ whole (name k) 2 ∷ []) ∷ []) ∷ []

areas_accepted : fault areas ≡ None
areas_accepted = refl

areas_write : (run areas []).records ≡ codes " 2" ∷ codes " 1" ∷ codes " 3 5" ∷ []
unfolding digits
areas_write = refl

areas_end : (run areas []).end ≡ Ended Done
unfolding digits
areas_end = refl

-- ---- numbers of places ----

-- struct s { integer k; integer c(2) } / s x(2, 3)
abbrev rows : DataType
rows = Array (up_to 2 ∷ up_to 3 ∷ []) (Structured (AndMember k (Scalar kinds.Integer) (AndMember (codes "C") (Array (up_to 2 ∷ []) (Scalar kinds.Integer)) NoMember)))

-- x(i, j).c(2)
abbrev cell : ℕ → ℕ → EflPlace
cell i j = Path x (exprs (num i ∷ num j ∷ [])) (its_c (num 2))

-- the first subscript goes fastest
next_by_first : offset rows (cell 2 1) ≡ Some 5
next_by_first = refl

next_by_second : offset rows (cell 1 2) ≡ Some 8
next_by_second = refl

path_there : path_of rows (cell 1 2) ≡ Some (ToElement (pos 1 ∷ pos 2 ∷ []) ∷ ToMember 1 ∷ ToElement (pos 2 ∷ []) ∷ [])
path_there = refl

listed_there : slice_get (paths (sort_of rows)) 8 ≡ path_of rows (cell 1 2)
listed_there = refl

-- a member without a type has no place for the checks, and one in its sort
abbrev untyped : DataType
untyped = Structured (AndMember a NoType (AndMember k (Scalar kinds.Integer) NoMember))

untyped_number : offset untyped (from x (member k NoStep)) ≡ Some 0
untyped_number = refl

untyped_listed : slice_get (paths (sort_of untyped)) 0 ≡ Some (ToMember 0 ∷ [])
untyped_listed = refl
