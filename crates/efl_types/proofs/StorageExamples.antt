-- The limit on the places of all variables, by computation.
use Rattle.std.proofs.Common.{◌≡◌, refl}
use Rattle.std.specs.Prelude.{ℕ, List, [], ◌∷◌, ◌++◌, map, Option, Some, None, option_map}
use Rattle.efl_tree.specs.Syntax.{EflVar, Integer, EflDecl, Empty, EflProcedure, Variables}
use Rattle.efl_scope.proofs.ExampleTexts.{num, at, up_to, sized, decl, area, set, stmt, procedure, main, program}
use Rattle.efl_types.specs.Storage.{storage_fault}
use Rattle.efl_types.proofs.Examples.{a, k, p}

abbrev fault : List EflProcedure → Option (ℕ × ℕ)
fault us = option_map (λ f. (f.number, f.place.line)) (storage_fault (program us))

-- thirty arrays of 32,767 places, and one of n: 983,010 and n places
abbrev letters : List ℕ
letters = 65 ∷ 66 ∷ 67 ∷ 68 ∷ 69 ∷ 70 ∷ 71 ∷ 72 ∷ 73 ∷ 74 ∷ []

abbrev thirty : List EflVar
thirty = map (λ c. sized (c ∷ 49 ∷ []) (up_to 32767 ∷ [])) letters ++ map (λ c. sized (c ∷ 50 ∷ []) (up_to 32767 ∷ [])) letters ++ map (λ c. sized (c ∷ 51 ∷ []) (up_to 32767 ∷ [])) letters

abbrev large : ℕ → EflDecl
large n = decl 2 (Variables None Integer (sized a (up_to n ∷ []) ∷ thirty))

as_many : fault (main (large 16990 ∷ []) (stmt 3 Empty ∷ []) ∷ []) ≡ None
as_many = refl

more : fault (main (large 16991 ∷ []) (stmt 3 Empty ∷ []) ∷ []) ≡ Some (8, 3)
more = refl

-- an undeclared variable counts
undeclared : fault (main (large 16990 ∷ []) (set 3 (at k) (num 1) ∷ []) ∷ []) ≡ Some (8, 3)
undeclared = refl

-- a formal doesn't, and an area counts once; a body without statements has its `end`
abbrev other : List EflDecl → EflProcedure
other ds = procedure 11 None (Some p) (k ∷ []) ds []

formals : fault (main (large 16990 ∷ []) [] ∷ other [] ∷ []) ≡ None
formals = refl

area_once : fault (main (large 16989 ∷ area 3 k Integer (sized p [] ∷ []) ∷ []) [] ∷ other (area 12 k Integer (sized p [] ∷ []) ∷ []) ∷ []) ≡ None
area_once = refl

no_statement : fault (main (large 16990 ∷ []) [] ∷ other (decl 12 (Variables None Integer (sized p [] ∷ [])) ∷ []) ∷ []) ≡ Some (8, 99)
no_statement = refl
