-- The rules of scopes on small procedures, by computation. A text's first line is that of `procedure`.
use Rattle.std.proofs.Common.{◌≡◌, refl}
use Rattle.std.specs.Prelude.{ℕ, true, false, List, [], ◌∷◌, Option, Some, None, option_map, codes}
use Rattle.ground.specs.declared.fault.FaultKind.{FaultKind}
use Rattle.ground.specs.declared.fault.FaultKind.TheVariants.{OutOfProfileType, DuplicateName}
use Rattle.efl_tree.specs.Syntax.{Text, At, Call, NoExpr, NoStep, Overlay, Integer, Logical, Real, Named, Shape, NoGroup, Implicit, Variables, Area, Structure, EflDecl, EflStmt, Empty, Act, Do, EflProcedure}
use Rattle.efl_scope.specs.FirstFault.{first_fault}
use Rattle.efl_scope.proofs.ExampleTexts.{num, at, from, member, scalars, decl, declare, group, one_member, area, stmt, labelled, set, block, procedure, main, program}

-- the kind and the line of the first fault
abbrev pub fault : List EflProcedure → Option (FaultKind × ℕ)
fault us = option_map (λ f. (f.kind, f.place.line)) (first_fault (program us))

abbrev pub alone : List EflDecl → List EflStmt → Option (FaultKind × ℕ)
alone ds ss = fault (main ds ss ∷ [])

abbrev pub a : Text
a = codes "A"

abbrev pub k : Text
k = codes "K"

abbrev pub s : Text
s = codes "S"

abbrev pub t : Text
t = codes "T"

abbrev pub x : Text
x = codes "X"

-- struct s { integer a }
abbrev pub struct : ℕ → Text → EflDecl
struct n y = decl n (Structure y (one_member n a))

-- ---- types ----

real : alone (declare 2 (Real false) (k ∷ []) ∷ []) [] ≡ Some (OutOfProfileType, 2)
real = refl

structure : alone (struct 2 s ∷ declare 3 (Named s) (x ∷ []) ∷ []) [] ≡ None
structure = refl

-- a structure's name counts from its `}` on
structure_later : alone (declare 2 (Named s) (x ∷ []) ∷ struct 3 s ∷ []) [] ≡ Some (OutOfProfileType, 2)
structure_later = refl

in_itself : alone (decl 2 (Structure s (group 3 (Named s) (scalars (a ∷ [])) NoGroup)) ∷ []) [] ≡ Some (OutOfProfileType, 3)
in_itself = refl

-- before that the outer one of that name is still meant
outer_meant : alone (struct 2 s ∷ []) (block 3 (declare 4 (Named s) (x ∷ []) ∷ decl 5 (Structure s (group 5 (Named s) (scalars (a ∷ [])) NoGroup)) ∷ []) [] ∷ []) ≡ None
outer_meant = refl

inner_unknown_outside : alone [] (block 2 (struct 3 s ∷ []) [] ∷ block 4 (declare 5 (Named s) (x ∷ []) ∷ []) [] ∷ []) ≡ Some (OutOfProfileType, 5)
inner_unknown_outside = refl

-- an inner variable of that name hides the structure
hidden_structure : alone (struct 2 s ∷ []) (block 3 (declare 4 Integer (s ∷ []) ∷ declare 5 (Named s) (x ∷ []) ∷ []) [] ∷ []) ≡ Some (OutOfProfileType, 5)
hidden_structure = refl

-- struct s { struct t { integer a } x } and t k: t is a name of the block
abbrev within : EflDecl
within = decl 2 (Structure s (group 3 (Shape (Some t) (one_member 3 a)) (scalars (x ∷ [])) NoGroup))

structure_in_shape : alone (within ∷ declare 4 (Named t) (k ∷ []) ∷ []) [] ≡ None
structure_in_shape = refl

structure_in_implicit : alone (decl 2 (Implicit ((65, 67) ∷ []) (Shape (Some t) (one_member 2 a))) ∷ declare 3 (Named t) (k ∷ []) ∷ []) [] ≡ None
structure_in_implicit = refl

real_implicit : alone (decl 2 (Implicit ((65, 67) ∷ []) (Real true)) ∷ []) [] ≡ Some (OutOfProfileType, 2)
real_implicit = refl

real_member : alone (decl 2 (Structure s (group 3 (Real false) (scalars (a ∷ [])) NoGroup)) ∷ []) [] ≡ Some (OutOfProfileType, 3)
real_member = refl

real_in_area : alone (decl 2 (Area k (group 3 (Real false) (scalars (a ∷ [])) NoGroup)) ∷ []) [] ≡ Some (OutOfProfileType, 3)
real_in_area = refl

-- no structure is in scope at a header, and one in its type is a name of none
header_named : fault (procedure 1 (Some (Named s)) (Some k) [] (struct 2 s ∷ []) [] ∷ []) ≡ Some (OutOfProfileType, 1)
header_named = refl

header_shape : fault (procedure 1 (Some (Shape (Some s) (one_member 1 a))) (Some k) [] (declare 2 (Named s) (x ∷ []) ∷ []) [] ∷ []) ≡ Some (OutOfProfileType, 2)
header_shape = refl

-- k = x -> s.a, where s is no structure
laid : alone [] (set 2 (at k) (At (from x (Overlay s (member a NoStep)))) ∷ []) ≡ Some (OutOfProfileType, 2)
laid = refl

laid_over : alone (struct 2 s ∷ []) (set 3 (at k) (At (from x (Overlay s (member a NoStep)))) ∷ []) ≡ None
laid_over = refl

-- an undeclared name that would be real is for the types to tell
undeclared_real : alone [] (set 2 (at x) (num 1) ∷ []) ≡ None
undeclared_real = refl

-- ---- names ----

twice : alone (declare 2 Integer (k ∷ []) ∷ declare 3 Logical (k ∷ []) ∷ []) [] ≡ Some (DuplicateName, 3)
twice = refl

twice_in_one : alone (declare 2 Integer (k ∷ k ∷ []) ∷ []) [] ≡ Some (DuplicateName, 2)
twice_in_one = refl

in_two_blocks : alone (declare 2 Integer (k ∷ []) ∷ []) (block 3 (declare 4 Logical (k ∷ []) ∷ []) [] ∷ []) ≡ None
in_two_blocks = refl

variable_and_structure : alone (struct 2 s ∷ declare 3 Integer (s ∷ []) ∷ []) [] ≡ Some (DuplicateName, 3)
variable_and_structure = refl

-- struct s { integer a } s
shape_and_variable : alone (decl 2 (Variables None (Shape (Some s) (one_member 2 a)) (scalars (s ∷ []))) ∷ []) [] ≡ Some (DuplicateName, 2)
shape_and_variable = refl

-- a structure's fault is its declaration's, a member's its group's
structure_twice : alone (declare 2 Integer (t ∷ []) ∷ decl 3 (Structure s (group 4 (Shape (Some t) (one_member 4 a)) (scalars (x ∷ [])) NoGroup)) ∷ []) [] ≡ Some (DuplicateName, 3)
structure_twice = refl

member_twice : alone (decl 2 (Structure s (group 3 Integer (scalars (a ∷ [])) (group 4 Logical (scalars (a ∷ [])) NoGroup))) ∷ []) [] ≡ Some (DuplicateName, 4)
member_twice = refl

-- members, procedures and areas are other kinds of names
member_as_variable : alone (struct 2 s ∷ declare 3 Integer (a ∷ []) ∷ []) [] ≡ None
member_as_variable = refl

procedure_as_area : fault (main (area 2 k Integer (scalars (k ∷ [])) ∷ []) [] ∷ procedure 4 None (Some k) [] [] [] ∷ []) ≡ None
procedure_as_area = refl

label_as_variable : alone (declare 2 Integer (k ∷ []) ∷ []) (labelled 3 k Empty ∷ []) ≡ None
label_as_variable = refl

area_variable_twice : alone (declare 2 Integer (k ∷ []) ∷ decl 3 (Area x (group 4 Integer (scalars (k ∷ [])) NoGroup)) ∷ []) [] ≡ Some (DuplicateName, 4)
area_variable_twice = refl

-- formals
abbrev pub formal_of : List Text → List EflDecl → Option (FaultKind × ℕ)
formal_of fs ds = fault (procedure 1 None (Some k) fs ds [] ∷ [])

formal_declared : formal_of (x ∷ []) (declare 2 Integer (x ∷ []) ∷ []) ≡ None
formal_declared = refl

formal_declared_twice : formal_of (x ∷ []) (declare 2 Integer (x ∷ []) ∷ declare 3 Integer (x ∷ []) ∷ []) ≡ Some (DuplicateName, 3)
formal_declared_twice = refl

formal_twice : formal_of (x ∷ x ∷ []) [] ≡ Some (DuplicateName, 1)
formal_twice = refl

formal_in_area : formal_of (x ∷ []) (area 2 a Integer (scalars (x ∷ [])) ∷ []) ≡ Some (DuplicateName, 2)
formal_in_area = refl

formal_as_structure : formal_of (s ∷ []) (struct 2 s ∷ []) ≡ Some (DuplicateName, 2)
formal_as_structure = refl

formal_in_block : fault (procedure 1 None (Some k) (s ∷ []) [] (block 2 (struct 3 s ∷ []) [] ∷ []) ∷ []) ≡ None
formal_in_block = refl

-- a structure's name as a variable, as that of a `do`, and before parentheses
structure_as_variable : alone (struct 2 s ∷ []) (set 3 (at k) (At (at s)) ∷ []) ≡ Some (DuplicateName, 3)
structure_as_variable = refl

structure_as_counter : alone (struct 2 s ∷ []) (stmt 3 (Do s (num 1) (num 2) None (stmt 4 Empty)) ∷ []) ≡ Some (DuplicateName, 3)
structure_as_counter = refl

structure_called : alone (struct 2 s ∷ []) (stmt 3 (Act (Call s NoExpr)) ∷ []) ≡ Some (DuplicateName, 3)
structure_called = refl

-- where an inner variable has the name it is that variable
structure_hidden : alone (struct 2 s ∷ []) (block 3 (declare 4 Integer (s ∷ []) ∷ []) (set 5 (at s) (num 1) ∷ []) ∷ []) ≡ None
structure_hidden = refl
