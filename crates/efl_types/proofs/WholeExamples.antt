-- Whole programs, by computation: what is told before the calls are asked, and the calls in reading order.
use Rattle.std.proofs.Common.{◌≡◌, refl}
use Rattle.std.specs.Prelude.{ℕ, List, [], ◌∷◌, map, Option, Some, None, option_map, codes}
use Rattle.ground.specs.declared.fault.FaultKind.{FaultKind}
use Rattle.ground.specs.declared.fault.FaultKind.TheVariants.{DuplicateUnit, MainCount}
use Rattle.efl_tree.specs.Syntax.{At, Call, NoExpr, Integer, EflStmt, Empty, Act, EflProcedure, Variables}
use Rattle.efl_scope.proofs.ExampleTexts.{num, at, item, up_to, sized, decl, area, scalars, stmt, set, procedure, main, program}
use Rattle.efl_types.specs.Whole.{count_fault, program_calls}
use Rattle.efl_types.proofs.Examples.{f, k, p}

abbrev counted : List EflProcedure → Option (FaultKind × ℕ)
counted us = option_map (λ c. (c.kind, c.place.line)) (count_fault (program us))

abbrev sub : ℕ → List EflStmt → EflProcedure
sub n ss = procedure n None (Some p) [] [] ss

twice : counted (main [] [] ∷ sub 3 [] ∷ sub 5 [] ∷ []) ≡ Some (DuplicateUnit, 5)
twice = refl

intrinsic : counted (procedure 1 (Some Integer) (Some (codes "MAX")) [] [] [] ∷ main [] [] ∷ []) ≡ Some (DuplicateUnit, 1)
intrinsic = refl

-- intrinsic functions of FORTRAN, and areas, are no procedures
other_kinds : counted (main (area 2 p Integer (scalars (k ∷ [])) ∷ []) [] ∷ sub 3 [] ∷ procedure 5 None (Some (codes "MAX0")) [] [] [] ∷ []) ≡ None
other_kinds = refl

none : counted (sub 1 [] ∷ []) ≡ Some (MainCount, 100)
none = refl

-- at the first statement of the second main, or at its `end`
two : counted (main [] [] ∷ procedure 3 None None [] [] (stmt 4 Empty ∷ []) ∷ []) ≡ Some (MainCount, 4)
two = refl

two_empty : counted (main [] [] ∷ procedure 3 None None [] [] [] ∷ []) ≡ Some (MainCount, 99)
two_empty = refl

-- a name twice goes before the count of mains
twice_first : counted (sub 1 [] ∷ sub 3 [] ∷ []) ≡ Some (DuplicateUnit, 3)
twice_first = refl

-- each call with its procedures and its line
abbrev calls : List EflProcedure → List (ℕ × ℕ × ℕ)
calls us = map (λ c. (c.edge.from, c.edge.to, c.place.line)) (program_calls (program us))

in_order :
    calls (main [] (stmt 2 (Act (Call p NoExpr)) ∷ set 3 (at k) (At (item f (At (item f (num 1 ∷ [])) ∷ []))) ∷ []) ∷ sub 11 (stmt 12 (Act (Call p NoExpr)) ∷ []) ∷ procedure 21 (Some Integer) (Some f) (k ∷ []) [] [] ∷ [])
    ≡ (0, 1, 2) ∷ (0, 2, 3) ∷ (0, 2, 3) ∷ (1, 1, 12) ∷ []
in_order = refl

-- an element of an array, and an intrinsic function, are no calls
element : calls (main (decl 2 (Variables None Integer (sized f (up_to 3 ∷ []) ∷ [])) ∷ []) (set 3 (at k) (At (item f (At (item (codes "ABS") (num 1 ∷ [])) ∷ []))) ∷ []) ∷ procedure 21 (Some Integer) (Some f) (k ∷ []) [] [] ∷ []) ≡ []
element = refl
