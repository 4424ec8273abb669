-- The rules of `initial` on small procedures, by computation.
use Rattle.std.proofs.Common.{◌≡◌, refl}
use Rattle.std.specs.Prelude.{ℕ, pos, true, false, List, [], ◌∷◌, Option, Some, None, codes}
use Rattle.ground.specs.declared.fault.FaultKind.{FaultKind}
use Rattle.ground.specs.declared.fault.FaultKind.TheVariants.{OutOfProfileType, TypeClash, WrongCount, BadConstant, MissingUnit, NotAssignable, InitialTwice, Limit}
use Rattle.efl_tree.specs.declared.declaration.EflConst.{EflConst}
use Rattle.efl_tree.specs.declared.declaration.EflConst.TheVariants as constants
use Rattle.efl_tree.specs.Syntax.{Text, At, Group, Plus, EflPlace, NoStep, Overlay, Integer, Logical, Named, NoGroup, Initial, Variables, Structure, EflPreset, EflDecl}
use Rattle.efl_scope.proofs.ExampleTexts.{num, at, item, from, member, scalars, up_to, sized, decl, declare, group, area, block, procedure, main}
use Rattle.efl_types.proofs.Examples.{fault, told, a, b, f, k, l, m, p, s, x}

abbrev whole : ℕ → ℕ × EflConst
whole z = (1, constants.Int (pos z))

abbrev truth : ℕ × EflConst
truth = (1, constants.Truth true)

abbrev of : EflPlace → List (ℕ × EflConst) → EflPreset
of q cs = record { place = q; values = cs; listed = true }

abbrev one : EflPlace → ℕ × EflConst → EflPreset
one q c = record { place = q; values = c ∷ []; listed = false }

abbrev initial : ℕ → List EflPreset → EflDecl
initial n ps = decl n (Initial ps)

-- integer a(3), m; logical l; struct s { integer m; logical b(2) }; s x
abbrev declared : List EflDecl
declared =
    decl 2 (Variables None Integer (sized a (up_to 3 ∷ []) ∷ sized m [] ∷ [])) ∷ declare 2 Logical (l ∷ [])
    ∷ decl 2 (Structure s (group 2 Integer (scalars (m ∷ [])) (group 2 Logical (sized b (up_to 2 ∷ []) ∷ []) NoGroup)))
    ∷ declare 2 (Named s) (x ∷ []) ∷ []

-- the presets of line 1, and then the declarations: they count for the whole block
abbrev only : List EflPreset → Option (FaultKind × ℕ × ℕ)
only ps = fault (main (initial 1 ps ∷ declared) [] ∷ [])

scalar : only (one (at m) (whole 1) ∷ one (at l) truth ∷ []) ≡ None
scalar = refl

undeclared : only (one (at k) (whole 1) ∷ []) ≡ None
undeclared = refl

undeclared_real : only (one (at (codes "Z")) (whole 1) ∷ []) ≡ told OutOfProfileType 1
undeclared_real = refl

other_type : only (one (at m) truth ∷ []) ≡ told BadConstant 1
other_type = refl

-- an array or structure takes constants in parentheses
array_alone : only (one (at a) (whole 1) ∷ []) ≡ told TypeClash 1
array_alone = refl

array_filled : only (of (at a) (whole 1 ∷ whole 2 ∷ whole 3 ∷ []) ∷ []) ≡ None
array_filled = refl

array_passed : only (of (at a) ((4, constants.Int (pos 0)) ∷ []) ∷ []) ≡ told WrongCount 1
array_passed = refl

from_element : only (of (item a (num 2 ∷ [])) (whole 1 ∷ whole 2 ∷ []) ∷ []) ≡ None
from_element = refl

past_the_end : only (of (item a (num 2 ∷ [])) ((3, constants.Int (pos 1)) ∷ []) ∷ []) ≡ told WrongCount 1
past_the_end = refl

-- from a member on to the end of the variable
structure_filled : only (of (from x (member m NoStep)) (whole 1 ∷ (2, constants.Truth true) ∷ []) ∷ []) ≡ None
structure_filled = refl

member_type : only (of (at x) (whole 1 ∷ truth ∷ whole 2 ∷ []) ∷ []) ≡ told BadConstant 1
member_type = refl

no_repeat : only (of (at a) ((0, constants.Int (pos 1)) ∷ []) ∷ []) ≡ told BadConstant 1
no_repeat = refl

-- constant subscripts, within their bounds, without parentheses; no `->`
signed_subscript : only (one (item a (Plus (num 2) ∷ [])) (whole 1) ∷ []) ≡ None
signed_subscript = refl

outside : only (one (item a (num 4 ∷ [])) (whole 1) ∷ []) ≡ told NotAssignable 1
outside = refl

in_parentheses : only (one (item a (Group (num 2) ∷ [])) (whole 1) ∷ []) ≡ told NotAssignable 1
in_parentheses = refl

variable_subscript : only (one (item a (At (at m) ∷ [])) (whole 1) ∷ []) ≡ told NotAssignable 1
variable_subscript = refl

laid : only (one (from m (Overlay s (member m NoStep))) (whole 1) ∷ []) ≡ told NotAssignable 1
laid = refl

called : only (one (item m (num 1 ∷ [])) (whole 1) ∷ []) ≡ told MissingUnit 1
called = refl

formal : fault (procedure 1 None (Some p) (k ∷ []) (initial 2 (one (at k) (whole 1) ∷ []) ∷ []) [] ∷ []) ≡ told NotAssignable 2
formal = refl

-- in an inner block an area's variable is not initialised, another outer one is
inner_area : fault (main (area 2 f Integer (scalars (k ∷ [])) ∷ []) (block 3 (initial 4 (one (at k) (whole 1) ∷ []) ∷ []) [] ∷ []) ∷ []) ≡ told NotAssignable 4
inner_area = refl

inner_other : fault (main (declare 2 Integer (k ∷ []) ∷ []) (block 3 (initial 4 (one (at k) (whole 1) ∷ []) ∷ []) [] ∷ []) ∷ []) ≡ None
inner_other = refl

-- ---- twice ----

twice : only (one (at m) (whole 1) ∷ one (at m) (whole 1) ∷ []) ≡ told InitialTwice 1
twice = refl

other_elements : only (one (item a (num 1 ∷ [])) (whole 1) ∷ of (item a (num 2 ∷ [])) (whole 1 ∷ whole 2 ∷ []) ∷ []) ≡ None
other_elements = refl

in_the_run : only (of (at a) (whole 1 ∷ whole 2 ∷ []) ∷ one (item a (num 2 ∷ [])) (whole 1) ∷ []) ≡ told InitialTwice 1
in_the_run = refl

-- the outer variable in an inner block, and an inner one of that name
outer_again : fault (main (declare 2 Integer (k ∷ []) ∷ initial 3 (one (at k) (whole 1) ∷ []) ∷ []) (block 4 (initial 5 (one (at k) (whole 1) ∷ []) ∷ []) [] ∷ []) ∷ []) ≡ told InitialTwice 5
outer_again = refl

inner_own : fault (main (declare 2 Integer (k ∷ []) ∷ initial 3 (one (at k) (whole 1) ∷ []) ∷ []) (block 4 (declare 5 Integer (k ∷ []) ∷ initial 6 (one (at k) (whole 1) ∷ []) ∷ []) [] ∷ []) ∷ []) ≡ None
inner_own = refl

-- areas by their places: (k, m) is (i, j) in another procedure
abbrev areas : Text → Option (FaultKind × ℕ × ℕ)
areas y = fault (main (area 2 f Integer (scalars (k ∷ m ∷ [])) ∷ initial 3 (one (at m) (whole 1) ∷ []) ∷ []) []
    ∷ procedure 11 None (Some p) [] (area 12 f Integer (scalars (codes "I" ∷ codes "J" ∷ [])) ∷ initial 13 (one (at y) (whole 1) ∷ []) ∷ []) [] ∷ [])

same_place : areas (codes "J") ≡ told InitialTwice 13
same_place = refl

other_place : areas (codes "I") ≡ None
other_place = refl

-- ---- the limit on values ----

abbrev large : ℕ → EflDecl
large n = decl 2 (Variables None Integer (sized a (up_to 32767 ∷ []) ∷ sized b (up_to n ∷ []) ∷ []))

abbrev values : ℕ → Option (FaultKind × ℕ × ℕ)
values n = fault (main (large 5 ∷ initial 3 (of (at a) ((32766, constants.Int (pos 1)) ∷ []) ∷ []) ∷ initial 4 (of (at b) ((n, constants.Int (pos 1)) ∷ []) ∷ []) ∷ []) [] ∷ [])

passed : values 2 ≡ Some (Limit, 4, 13)
passed = refl
