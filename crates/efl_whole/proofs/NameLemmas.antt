-- Names that are taken by the numbers of procedures, and mains that come.
use Rattle.std.proofs.Common.{◌≡◌, ◌+◌, ℕ, suc, Bool, true, false, cond, ◌||◌, List, [], ◌∷◌, ◌++◌, length, Option, Some, None, refl, sym, ap, ◌∙◌, arith}
use Rattle.std.specs.Prelude.{is_none, is_some, option_map, if◌then◌else◌}
use Rattle.std.specs.List.{list_any, cons_option}
use Rattle.std.specs.Str.{bytes_eq}
use Rattle.std.proofs.lemmas.List.{append_assoc}
use Rattle.rule_table.specs.Words.{is_below, is_some_and, first_place}
use Rattle.rule_table.proofs.WordLemmas.{list_any-push}
use Rattle.ground.specs.declared.place.Place.{Place}
use Rattle.efl_tree.specs.Syntax.{Text, EflProcedure}
use Rattle.efl_scope.specs.ScopeRules.{holds}
use Rattle.efl_types.specs.Signatures.{known}
use Rattle.efl_types.specs.Whole.{number_of, is_taken, names_before, first_taken, mains, main_fault}
use Rattle.efl_whole.specs.Names.{takes_name, taken_from, main_behind}

-- a procedure has the name
abbrev is_named : Text → EflProcedure → Bool
is_named x u = is_some_and (bytes_eq x) u.name

or_comm : (a b : Bool) → (a || b) ≡ (b || a)
or_comm true true = refl
or_comm true false = refl
or_comm false true = refl
or_comm false false = refl

length_push : {X : Type 0} (xs : List X) (y : X) → length xs + 1 ≡ length (xs ++ y ∷ [])
length_push [] y = refl
length_push (x ∷ xs) y = (let e = length_push xs y in omega (arith, e))

-- a place below that of the rest is one of an element before it
below_place : {X : Type 0} (test : X → Bool) (xs ys : List X) → is_below (length xs) (first_place test (xs ++ ys)) ≡ list_any test xs
below_place test [] ys = none (first_place test ys)
  where
    none : (o : Option ℕ) → is_below 0 o ≡ false
    none None = refl
    none (Some m) = grind arith
below_place test (x ∷ xs) ys = by (test x) (first_place test (xs ++ ys)) ∙ ap (λ b. test x || b) (below_place test xs ys)
  where
    by : (b : Bool) (o : Option ℕ) → is_below (suc (length xs)) (cond b (Some 0) (option_map (λ n. n + 1) o)) ≡ (b || is_below (length xs) o)
    by true o = grind arith
    by false None = refl
    by false (Some m) = grind arith

held : (x : Text) (us : List EflProcedure) → holds (names_before us) x ≡ list_any (is_named x) us
held x [] = refl
held x (u ∷ us) = by u.name (names_before us) ∙ ap (λ b. is_named x u || b) (held x us)
  where
    by : (o : Option Text) (names : List Text) → list_any (bytes_eq x) (cons_option o names) ≡ (is_some_and (bytes_eq x) o || list_any (bytes_eq x) names)
    by None names = refl
    by (Some y) names = refl

module _ (all : List EflProcedure) (numbers : Text → Option ℕ) (are : (x : Text) → numbers x ≡ number_of all x) where
  -- the procedures before have the same names
  abbrev Same : List EflProcedure → List EflProcedure → Type 0
  Same before xs = (x : Text) → list_any (is_named x) before ≡ list_any (is_named x) xs

  takes : (before xs us : List EflProcedure) (o : Option Text) → Same before xs → all ≡ xs ++ us → takes_name numbers (length xs) o ≡ is_some_and (is_taken (names_before before)) o
  takes before xs us None same is = refl
  takes before xs us (Some x) same is =
      ap (λ b. b || is_some (known x))
      (ap (is_below (length xs)) (are x ∙ ap (λ vs. number_of vs x) is) ∙ below_place (is_named x) xs us ∙ sym (same x) ∙ sym (held x before))

  pub taken_behind : (us before xs : List EflProcedure) → Same before xs → all ≡ xs ++ us → taken_from numbers (length xs) us ≡ first_taken before us
  taken_behind [] before xs same is = refl
  taken_behind (u ∷ us) before xs same is =
      let e = length_push xs u in
      ap (λ b. if b then Some u.place else taken_from numbers (length xs + 1) us) (takes before xs (u ∷ us) u.name same is)
      ∙ ap (λ o. if is_some_and (is_taken (names_before before)) u.name then Some u.place else o)
      (ap (λ n. taken_from numbers n us) e
      ∙ taken_behind us (u ∷ before) (xs ++ u ∷ []) (λ x. ap (λ b. is_named x u || b) (same x) ∙ or_comm (is_named x u) (list_any (is_named x) xs) ∙ sym (list_any-push (is_named x) xs u))
      (is ∙ sym (append_assoc xs (u ∷ []) us)))

pub first_is : (us : List EflProcedure) (numbers : Text → Option ℕ) → ((x : Text) → numbers x ≡ number_of us x) → taken_from numbers 0 us ≡ first_taken [] us
first_is us numbers are = taken_behind us numbers are us [] [] (λ x. refl) refl

-- ---- mains ----

pub first_main : (u : EflProcedure) (us : List EflProcedure) → is_none u.name ≡ true → mains (u ∷ us) ≡ u ∷ mains us
first_main u us is = ap (λ b. cond b (u ∷ mains us) (mains us)) is

pub no_main : (u : EflProcedure) (us : List EflProcedure) → is_none u.name ≡ false → mains (u ∷ us) ≡ mains us
no_main u us is = ap (λ b. cond b (u ∷ mains us) (mains us)) is

pub main_more : (end : Place) (u : EflProcedure) (us : List EflProcedure) → is_none u.name ≡ true → main_behind true end (mains us) ≡ main_behind false end (mains (u ∷ us))
main_more end u us is = by (mains us) ∙ sym (ap (main_fault end) (first_main u us is))
  where
    by : (vs : List EflProcedure) → main_behind true end vs ≡ main_fault end (u ∷ vs)
    by [] = refl
    by (v ∷ vs) = refl
