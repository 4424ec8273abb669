-- One unit more has its number, unless an earlier one has its name.
use Rattle.std.proofs.Common.{◌≡◌, ◌<◌, ◌+◌, ◌∙◌, ◌∷◌, ◌++◌, [], ℕ, zero, suc, Bool, true, false, List, length, map, take, get_or, Option, None, Some, refl, sym, ap, arith}
use Rattle.std.specs.Prelude.{if◌then◌else◌}
use Rattle.std.specs.Option.{option_or}
use Rattle.std.proofs.lemmas.List.{length-map, map-append, take_more, length-take-le}
use Rattle.f66_tree.specs.Syntax.{Text, Routine}
use Rattle.f66_program.specs.Calls.{is_called, one_further, unit_named}

further_or : (b c : Bool) (o : Option ℕ) (n : ℕ) → (if b then Some zero else one_further (option_or o (if c then Some n else None))) ≡ option_or (if b then Some zero else one_further o) (if c then Some (suc n) else None)
further_or true c o n = refl
further_or false true None n = refl
further_or false false None n = refl
further_or false c (Some m) n = refl

pub named_push : (q : Text) (rs : List Routine) (r : Routine) → unit_named q (rs ++ r ∷ []) ≡ option_or (unit_named q rs) (if is_called q r.header then Some (length rs) else None)
named_push q [] r = last (is_called q r.header)
  where
    last : (b : Bool) → (if b then Some zero else None) ≡ option_or None (if b then Some 0 else None)
    last true = refl
    last false = refl
named_push q (s ∷ rs) r =
    ap (λ o. if is_called q s.header then Some zero else one_further o) (named_push q rs r)
    ∙ further_or (is_called q s.header) (is_called q r.header) (unit_named q rs) (length rs)

pub named_more : {X : Type 0} (f : X → Routine) (q : Text) (xs : List X) (i : ℕ) (x : X) → i < length xs → x ≡ get_or xs i x →
    unit_named q (map f (take (i + 1) xs)) ≡ option_or (unit_named q (map f (take i xs))) (if is_called q (f x).header then Some i else None)
named_more f q xs i x lt is =
    ap (λ ys. unit_named q (map f ys)) (take_more xs i x lt ∙ ap (λ y. take i xs ++ y ∷ []) (sym is))
    ∙ ap (unit_named q) (map-append f (take i xs) (x ∷ [])) ∙ named_push q (map f (take i xs)) (f x)
    ∙ ap (λ n. option_or (unit_named q (map f (take i xs))) (if is_called q (f x).header then Some n else None)) (length-map (take i xs) f ∙ length-take-le i xs (omega (arith, lt)))
