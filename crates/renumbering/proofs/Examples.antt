-- A program whose main and subroutine share a block, by two numberings; and programs that numbers do matter to, for want of a premise.
use Rattle.std.proofs.Common.{◌≡◌, ℕ, zero, suc, List, [], ◌∷◌, length, Some, None, codes, refl, sym, ◌∙◌, subst}
use Rattle.std.specs.Prelude.{ℤ, pos, ◌+◌, ◌*◌, if◌then◌else◌}
use Rattle.std.specs.Str.{bytes_eq}
use Rattle.std.specs.List.{slice_get}
use Rattle.ground.specs.declared.trap.Trap.TheVariants.{Undefined}
use Rattle.f66_tree.specs.declared.expression.Operator.TheVariants.{Add, Sub, Eq}
use Rattle.f66_tree.specs.Syntax.{Text, Formula, Int, Ref, Item, Pair, NoFormula, AndFormula, Constant, MainUnit, SubUnit, Act, Assign, Sign, Invoke, Stop, Return, Common, Line, unlabelled_line, labelled_line, Routine}
use Rattle.f66_tree.specs.Units.{Linkage}
use Rattle.f66_tree.specs.World.{fresh, Shown, Ended, Done, Stopped, Trapped}
use Rattle.f66_tree.specs.Execution.{nowhere, f66}
use Rattle.rat_tree.specs.Syntax.{Commands, NoCommand, AndCommand, If, Plain}
use Rattle.rat_tree.specs.Meaning.{Body, Ours, Theirs, ratfor}
use Rattle.f66_program.specs.Mentions.{context_of}
use Rattle.f66_program.specs.Calls.{unit_named}
use Rattle.f66_tree.specs.Evaluation.{sort_of}
use Rattle.f66_soundness.proofs.KindLemmas.{no_some, some_same}
use Rattle.renumbering.specs.Bodies.{HasPlaces, ListedBy, InUnit, AreNamed}

abbrev i : Text
i = codes "I"

abbrev j : Text
j = codes "J"

abbrev k : Text
k = codes "K"

abbrev adds : Text
adds = codes "ADDS"

abbrev says : Act → Line
says a = unlabelled_line nowhere a

abbrev element : ℤ → Formula
element n = Item k (AndFormula (Int n) NoFormula)

--       COMMON /B/ K(2)
--       K(1) = 3
--       K(2) = 4
--       CALL ADDS
--       IF (K(1) - 7) 20, 10, 20
--    10 STOP 7
--    20 STOP
--       END
abbrev main : Routine
main = record {
  header = MainUnit;
  lines =
      says (Common (record { name = Some (codes "B"); list = record { name = k; sizes = Constant (pos 2) ∷ [] } ∷ [] } ∷ []))
      ∷ says (Assign (element (pos 1)) (Int (pos 3)))
      ∷ says (Assign (element (pos 2)) (Int (pos 4)))
      ∷ says (Invoke adds NoFormula)
      ∷ says (Sign (Pair Sub (element (pos 1)) (Int (pos 7))) 20 10 20)
      ∷ labelled_line 10 nowhere (Stop (Some 7))
      ∷ labelled_line 20 nowhere (Stop None)
      ∷ [];
  place = nowhere;
}

--       SUBROUTINE ADDS
--       COMMON /B/ I, J
--       I = I + J
--       RETURN
--       END
abbrev subroutine : Routine
subroutine = record {
  header = SubUnit adds [];
  lines =
      says (Common (record { name = Some (codes "B"); list = record { name = i; sizes = [] } ∷ record { name = j; sizes = [] } ∷ [] } ∷ []))
      ∷ says (Assign (Ref i) (Pair Add (Ref i) (Ref j)))
      ∷ says Return
      ∷ [];
  place = nowhere;
}

abbrev linkage_of : List Routine → (ℕ → Text → ℕ → ℕ) → Linkage
linkage_of rs number = record {
  context = λ u. elim (slice_get rs u) [ Some r ↦ context_of r | None ↦ record { header = MainUnit; notes = [] } ];
  find = λ x. unit_named x rs;
  main = 0;
  deep = length rs;
  number = number;
  first = fresh [];
}

-- at most so many statements of the units by these numbers
abbrev run : List Routine → (ℕ → Text → ℕ → ℕ) → Shown
run rs number = f66 (linkage_of rs number) (λ u. elim (slice_get rs u) [ Some r ↦ r.lines | None ↦ [] ]) [] 20

abbrev units : List Routine
units = main ∷ subroutine ∷ []

-- the storage units are numbered from 0 on, and by tens from 60 on; what is no place has a number too
abbrev compact : ℕ → Text → ℕ → ℕ
compact u x o = if bytes_eq x j then 1 else (if bytes_eq x k then o else 0)

abbrev spread : ℕ → Text → ℕ → ℕ
spread u x o = if bytes_eq x j then 70 else (if bytes_eq x k then 60 + 10 * o else 60)

same_run : run units compact ≡ run units spread
same_run = refl

ends_so : (run units compact).end ≡ Ended (Stopped 7)
ends_so = refl

-- ---- the same of Ratfor ----

abbrev all : List Act → Commands → Commands
all [] rest = rest
all (a ∷ as') rest = AndCommand (Plain None nowhere a) (all as' rest)

-- the acts, and then the main as above, with: if (K(1) == 7) stop 7
abbrev ends_by : List Act → Commands
ends_by as' =
    all (Assign (element (pos 1)) (Int (pos 3)) ∷ Assign (element (pos 2)) (Int (pos 4)) ∷ Invoke adds NoFormula ∷ as')
    (AndCommand (If nowhere (Pair Eq (element (pos 1)) (Int (pos 7))) (Plain None nowhere (Stop (Some 7)))) NoCommand)

abbrev bodies_of : Commands → ℕ → Body
bodies_of ss zero = Ours ss
bodies_of ss (suc u) = Theirs subroutine.lines

abbrev means : Commands → (ℕ → Text → ℕ → ℕ) → Shown
means ss number = ratfor (linkage_of units number) (bodies_of ss) 20 []

same_meaning : means (ends_by []) compact ≡ means (ends_by []) spread
same_meaning = refl

means_so : (means (ends_by []) compact).end ≡ Ended (Stopped 7)
means_so = refl

-- its names stand for something in the main and the subroutine
in_unit : (u : ℕ) (r : Routine) → slice_get units u ≡ Some r → (P : Routine → Type 0) → P r → InUnit units u P
in_unit u r here P h q there = subst P (some_same (sym here ∙ there)) h

bodies_named : AreNamed units (bodies_of (ends_by []))
bodies_named zero r here =
    let array = in_unit 0 main refl (λ q. ListedBy units q k (sort_of (context_of q) k)) refl in
    ((((array, (tt, tt)), tt), (((array, (tt, tt)), tt), ((tt, tt), ((((array, (tt, tt)), tt), tt), tt)))), (tt, (tt, (tt, (tt, tt)))))
bodies_named (suc zero) r here =
    let first = in_unit 1 subroutine refl (λ q. HasPlaces q i) refl in
    let second = in_unit 1 subroutine refl (λ q. HasPlaces q j) refl in
    (tt, ((first, (first, second)), (tt, tt)))
bodies_named (suc (suc u)) r here = no_some _ here

-- a name that the main does not have may have the number of a place, or another one
abbrev stranger : Commands
stranger = ends_by (Assign (Ref (codes "N")) (Int (pos 9)) ∷ [])

abbrev aside : ℕ → Text → ℕ → ℕ
aside u x o = if bytes_eq x (codes "N") then 2 else compact u x o

strange_end : (means stranger compact).end ≡ Ended Done
strange_end = refl

other_end : (means stranger aside).end ≡ Ended (Stopped 7)
other_end = refl

-- ---- numbers that are not equal where places are one ----

-- the places of the block have two numbers
abbrev apart : ℕ → Text → ℕ → ℕ
apart u x o = if bytes_eq x i then 2 else compact u x o

ends_apart : (run units apart).end ≡ Ended (Trapped Undefined nowhere)
ends_apart = refl

-- ---- a program that is not whole ----

--       K = 1
--       I = SETS(K)
--       STOP
--       END
--       SUBROUTINE SETS(J)
--       J = 5
--       RETURN
--       END
abbrev referring : List Routine
referring =
    record {
      header = MainUnit;
      lines = says (Assign (Ref k) (Int (pos 1))) ∷ says (Assign (Ref i) (Item (codes "SETS") (AndFormula (Ref k) NoFormula))) ∷ says (Stop None) ∷ [];
      place = nowhere;
    }
    ∷ record { header = SubUnit (codes "SETS") (j ∷ []); lines = says (Assign (Ref j) (Int (pos 5))) ∷ says Return ∷ []; place = nowhere } ∷ []

-- a subroutine has no value, so no place of it is real, and a numbering may give it the number of K or another one
abbrev with_k : ℕ → Text → ℕ → ℕ
with_k u x o = if bytes_eq x i then 1 else 0

abbrev by_itself : ℕ → Text → ℕ → ℕ
by_itself u x o = if bytes_eq x i then 1 else (if bytes_eq x k then 0 else 2)

ends_with_k : (run referring with_k).end ≡ Ended Done
ends_with_k = refl

ends_by_itself : (run referring by_itself).end ≡ Ended (Trapped Undefined nowhere)
ends_by_itself = refl
