-- The first element that passes, looked for one by one.
use Rattle.std.proofs.Common.{◌≡◌, ◌<◌, ◌+◌, ◌∙◌, ◌∷◌, ◌++◌, [], ℕ, zero, suc, Bool, true, false, cond, List, length, map, take, get_or, Option, None, Some, find, refl, sym, ap}
use Rattle.std.specs.Option.{option_or}
use Rattle.std.proofs.lemmas.List.{map-append, take_more}
use Rattle.rule_table.proofs.WordLemmas.{find-push}
use Rattle.f66_tree.specs.declared.expression.Expr.{Expr}
use Rattle.f66_tree.specs.Views.{formulas_of}
use Rattle.f66_program.specs.Calls.{many}

module _ {X Y : Type 0} (test : Y → Bool) (f : X → Y) where
  one_more : (xs : List X) (i : ℕ) (x : X) → i < length xs → x ≡ get_or xs i x → find test (map f (take i xs)) ≡ None →
      find test (map f (take (i + 1) xs)) ≡ cond (test (f x)) (Some (f x)) None
  one_more xs i x lt is e =
      ap (λ ys. find test (map f ys)) (take_more xs i x lt ∙ ap (λ y. take i xs ++ y ∷ []) (sym is))
      ∙ ap (find test) (map-append f (take i xs) (x ∷ [])) ∙ find-push test (map f (take i xs)) (f x) ∙ ap (λ o. option_or o (cond (test (f x)) (Some (f x)) None)) e

  pub find_past : (xs : List X) (i : ℕ) (x : X) → i < length xs → x ≡ get_or xs i x → find test (map f (take i xs)) ≡ None → test (f x) ≡ false → find test (map f (take (i + 1) xs)) ≡ None
  find_past xs i x lt is e t = one_more xs i x lt is e ∙ ap (λ b. cond b (Some (f x)) None) t

  find_start : (xs : List X) (i : ℕ) (y : Y) → find test (map f (take i xs)) ≡ Some y → find test (map f xs) ≡ Some y
  find_start [] zero y e = absurd (cc)
  find_start [] (suc i) y e = absurd (cc)
  find_start (x ∷ xs) zero y e = absurd (cc)
  find_start (x ∷ xs) (suc i) y e = at (test (f x)) (find test (map f (take i xs))) (find test (map f xs)) y (λ g. find_start xs i y g) e
    where
      at : (b : Bool) (o p : Option Y) (y : Y) → (o ≡ Some y → p ≡ Some y) → cond b (Some (f x)) o ≡ Some y → cond b (Some (f x)) p ≡ Some y
      at true o p y g e = e
      at false o p y g e = g e

  pub find_here : (xs : List X) (i : ℕ) (x : X) → i < length xs → x ≡ get_or xs i x → find test (map f (take i xs)) ≡ None → test (f x) ≡ true → find test (map f xs) ≡ Some (f x)
  find_here xs i x lt is e t = find_start xs (i + 1) (f x) (one_more xs i x lt is e ∙ ap (λ b. cond b (Some (f x)) None) t)

pub many_listed : (all : List Expr) → many (formulas_of all) ≡ length all
many_listed [] = refl
many_listed (a ∷ all) = ap suc (many_listed all)
