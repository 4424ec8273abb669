-- The rules of labels, loops, areas and order on small procedures, by computation.
use Rattle.std.proofs.Common.{◌≡◌, refl}
use Rattle.std.specs.Prelude.{ℕ, pos, true, false, List, [], ◌∷◌, Option, Some, None, codes, map}
use Rattle.ground.specs.declared.fault.FaultKind.{FaultKind}
use Rattle.ground.specs.declared.fault.FaultKind.TheVariants.{OutOfProfileType, DuplicateName, BadLabel, BadBreak, CommonMismatch}
use Rattle.efl_tree.specs.declared.declaration.EflConst.TheVariants as constants
use Rattle.efl_tree.specs.declared.statement.LoopKind.TheVariants as loops
use Rattle.efl_tree.specs.Syntax.{Text, Truth, At, EflType, Integer, Logical, Real, Named, Shape, NoGroup, Area, EflDecl, EflStmt, Statement, Empty, While, For, RepeatUntil, Switch, Break, Next, Goto, NoCase, AndCase, EflProcedure, Initial}
use Rattle.efl_scope.specs.Marks.{program_variables}
use Rattle.efl_scope.proofs.ExampleTexts.{here, num, at, scalars, up_to, between, sized, decl, declare, group, one_member, area, stmt, labelled, all, set, block, procedure, main, program}
use Rattle.efl_scope.proofs.Examples.{fault, alone, a, k, s, t, x, struct, formal_of}

-- ---- labels ----

abbrev jump : ℕ → Text → EflStmt
jump n l = stmt n (Goto l)

onward : alone [] (jump 2 a ∷ labelled 3 a Empty ∷ []) ≡ None
onward = refl

out_of_block : alone [] (block 2 [] (jump 3 a ∷ []) ∷ labelled 4 a Empty ∷ []) ≡ None
out_of_block = refl

into_block : alone [] (jump 2 a ∷ block 3 [] (labelled 4 a Empty ∷ []) ∷ []) ≡ Some (BadLabel, 2)
into_block = refl

label_twice : alone [] (labelled 2 a Empty ∷ block 3 [] (labelled 4 a Empty ∷ []) ∷ []) ≡ Some (BadLabel, 4)
label_twice = refl

twice_on_one : alone [] (Statement (a ∷ a ∷ []) (here 7) Empty ∷ []) ≡ Some (BadLabel, 7)
twice_on_one = refl

label_of_other : fault (main [] (labelled 2 a Empty ∷ []) ∷ procedure 4 None (Some k) [] [] (jump 5 a ∷ []) ∷ []) ≡ Some (BadLabel, 5)
label_of_other = refl

label_in_each : fault (main [] (labelled 2 a Empty ∷ []) ∷ procedure 4 None (Some k) [] [] (labelled 5 a Empty ∷ []) ∷ []) ≡ None
label_in_each = refl

-- switch (k) { case 1: goto a / case 2: a: ; }
to_other_clause : alone [] (stmt 2 (Switch (At (at k)) (AndCase (pos 1 ∷ []) false (all (jump 3 a ∷ [])) (here 3) (AndCase (pos 2 ∷ []) false (all (labelled 4 a Empty ∷ [])) (here 4) NoCase))) ∷ []) ≡ Some (BadLabel, 3)
to_other_clause = refl

-- ---- loops and switches ----

abbrev while : ℕ → EflStmt → EflStmt
while n b = stmt n (While (Truth true) b)

abbrev for : ℕ → EflStmt → EflStmt
for n b = stmt n (For None None None b)

-- a switch with one clause
abbrev switch : ℕ → EflStmt → EflStmt
switch n b = stmt n (Switch (At (at k)) (AndCase (pos 1 ∷ []) false (all (b ∷ [])) (here n) NoCase))

alone_break : alone [] (stmt 2 (Break 1 None) ∷ []) ≡ Some (BadBreak, 2)
alone_break = refl

none_broken : alone [] (while 2 (stmt 3 (Break 0 None)) ∷ []) ≡ Some (BadBreak, 3)
none_broken = refl

switch_broken : alone [] (switch 2 (stmt 3 (Break 1 None)) ∷ []) ≡ None
switch_broken = refl

switch_not_next : alone [] (switch 2 (stmt 3 (Next 1 None)) ∷ []) ≡ Some (BadBreak, 3)
switch_not_next = refl

next_past_switch : alone [] (while 2 (switch 3 (stmt 4 (Next 1 None))) ∷ []) ≡ None
next_past_switch = refl

next_switch : alone [] (while 2 (switch 3 (stmt 4 (Next 1 (Some loops.Switch)))) ∷ []) ≡ Some (BadBreak, 4)
next_switch = refl

-- `break 2` counts a switch, `break 2 while` doesn't
two_with_switch : alone [] (while 2 (switch 3 (stmt 4 (Break 2 None))) ∷ []) ≡ None
two_with_switch = refl

two_while : alone [] (while 2 (switch 3 (stmt 4 (Break 2 (Some loops.While)))) ∷ []) ≡ Some (BadBreak, 4)
two_while = refl

-- a kind counts its own loops alone
outer_of_kind : alone [] (for 2 (while 3 (stmt 4 (Break 1 (Some loops.For)))) ∷ []) ≡ None
outer_of_kind = refl

-- ---- areas ----

abbrev q : Text
q = codes "Q"

abbrev two : List EflDecl → List EflDecl → Option (FaultKind × ℕ)
two ds es = fault (main ds [] ∷ procedure 11 None (Some k) [] es [] ∷ [])

shorter : two (area 2 q Integer (scalars (a ∷ [])) ∷ []) (area 12 q Integer (scalars (a ∷ x ∷ [])) ∷ []) ≡ Some (CommonMismatch, 12)
shorter = refl

-- all declarations of an area, joined; at the first of them
joined : two (area 2 q Integer (scalars (a ∷ x ∷ [])) ∷ []) (area 12 q Integer (scalars (s ∷ [])) ∷ declare 13 Logical (x ∷ []) ∷ area 14 q Integer (scalars (t ∷ [])) ∷ []) ≡ None
joined = refl

joined_other : two (area 2 q Integer (scalars (a ∷ x ∷ [])) ∷ []) (area 12 q Integer (scalars (s ∷ [])) ∷ area 14 q Logical (scalars (t ∷ [])) ∷ []) ≡ Some (CommonMismatch, 12)
joined_other = refl

same_bounds : two (area 2 q Integer (sized a (up_to 3 ∷ []) ∷ []) ∷ []) (area 12 q Integer (sized x (between 1 3 ∷ []) ∷ []) ∷ []) ≡ None
same_bounds = refl

other_bounds : two (area 2 q Integer (sized a (up_to 3 ∷ []) ∷ []) ∷ []) (area 12 q Integer (sized a (between 0 2 ∷ []) ∷ []) ∷ []) ≡ Some (CommonMismatch, 12)
other_bounds = refl

-- structures by their members' types: of other names, or of another order
other_names : two (struct 2 s ∷ area 3 q (Named s) (scalars (k ∷ [])) ∷ []) (area 12 q (Shape None (one_member 12 x)) (scalars (a ∷ [])) ∷ []) ≡ None
other_names = refl

abbrev pair : ℕ → EflType → EflType → EflDecl
pair n b c = area n q (Shape None (group n b (scalars (a ∷ [])) (group n c (scalars (x ∷ [])) NoGroup))) (scalars (k ∷ []))

other_order : two (pair 2 Integer Logical ∷ []) (pair 12 Logical Integer ∷ []) ≡ Some (CommonMismatch, 12)
other_order = refl

-- what has a fault agrees with anything: the fault itself is told
faulty : two (area 2 q Integer (scalars (a ∷ x ∷ [])) ∷ []) (area 12 q Integer (scalars (a ∷ [])) ∷ area 13 q (Real false) (scalars (x ∷ [])) ∷ []) ≡ Some (OutOfProfileType, 13)
faulty = refl

-- an area without variables is declared too
empty_area : two (decl 2 (Area q NoGroup) ∷ []) (area 12 q Integer (scalars (a ∷ [])) ∷ []) ≡ Some (CommonMismatch, 12)
empty_area = refl

-- bounds that are out of order agree with anything: they are a fault of types
bad_bounds : two (area 2 q Integer (sized a (up_to 3 ∷ []) ∷ []) ∷ []) (area 12 q Integer (sized a (between 3 1 ∷ []) ∷ []) ∷ []) ≡ None
bad_bounds = refl

-- a procedure that isn't the first is compared with the first, not with the one before
third : fault (main (area 2 q Integer (scalars (a ∷ [])) ∷ []) [] ∷ procedure 11 None (Some k) [] (area 12 q Integer (scalars (a ∷ [])) ∷ []) [] ∷ procedure 21 None (Some x) [] (area 22 q Logical (scalars (a ∷ [])) ∷ []) [] ∷ []) ≡ Some (CommonMismatch, 22)
third = refl

-- a formal in the list of an area is its group's fault
formal_in_list : formal_of (x ∷ []) (decl 2 (Area a (group 3 Integer (scalars (x ∷ [])) NoGroup)) ∷ []) ≡ Some (DuplicateName, 3)
formal_in_list = refl

-- ---- initial ----

abbrev preset : ℕ → Text → EflDecl
preset n y = decl n (Initial (record { place = at y; values = (1, constants.Int (pos 1)) ∷ []; listed = false } ∷ []))

-- before its `}` a structure's name is a variable
before_structure : alone (preset 2 s ∷ struct 3 s ∷ []) [] ≡ None
before_structure = refl

behind_structure : alone (struct 2 s ∷ preset 3 s ∷ []) [] ≡ Some (DuplicateName, 3)
behind_structure = refl

-- ---- numbers ----

-- the variables by their procedure and name, in the order of their numbers
abbrev numbered : List EflProcedure → List (ℕ × Text)
numbered us = map (λ v. (v.unit, v.variable.name)) (program_variables (program us))

-- k is met on line 3, before the inner a; the inner use of k is the same variable; formals come at the header
in_order : numbered (main (declare 2 Integer (x ∷ []) ∷ []) (set 3 (at k) (num 1) ∷ block 4 (declare 5 Integer (a ∷ x ∷ []) ∷ []) (set 6 (at k) (At (at x)) ∷ []) ∷ []) ∷ procedure 8 None (Some k) (k ∷ []) [] [] ∷ [])
    ≡ (0, x) ∷ (0, k) ∷ (0, a) ∷ (0, x) ∷ (1, k) ∷ []
in_order = refl

-- ---- order ----

-- a later part of a procedure goes before an earlier kind of a later one
by_procedures : two (declare 2 Integer (a ∷ a ∷ []) ∷ []) (declare 12 (Real false) (a ∷ []) ∷ []) ≡ Some (DuplicateName, 2)
by_procedures = refl

-- real k, k: at one part the smaller number
one_part : alone (declare 2 (Real false) (k ∷ k ∷ []) ∷ []) [] ≡ Some (OutOfProfileType, 2)
one_part = refl

-- the condition of `until` comes behind the body
until_last : alone (struct 2 s ∷ []) (stmt 3 (RepeatUntil (jump 4 a) (At (at s)) (here 5)) ∷ []) ≡ Some (BadLabel, 4)
until_last = refl

nothing : alone [] [] ≡ None
nothing = refl
