-- A stack of ranges, with the steps of the pass that finds the innermost range around each place.
use Rattle.std.proofs.Common.{◌≡◌, ◌+◌, ◌-◌, ◌<◌, ◌≤◌, ℕ, true, false, cond, Option, Some, None, List, [], ◌∷◌, ◌++◌, length, refl, ap, ◌∙◌, sym, arith, option_map, option_to_list, take, get_or, below_more}
use Rattle.std.proofs.lemmas.List.{take_more}
use Rattle.rule_table.specs.Words.{last_place}
use Rattle.rule_table.proofs.WordLemmas.{last_place-push}
use Rattle.std.proofs.lemmas.Grind.{common_steps}
use Rattle.std.specs.List.{slice_get}
use Rattle.std.specs.Option.{option_or}
use Rattle.std.specs.Prelude.{nat_le, nat_lt}
use Rattle.std.proofs.lemmas.Bool.Decides.{nat_tests}
use Rattle.f66_flow.specs.Innermost.{last_range, top_of, ends_before}
use Rattle.std.proofs.lemmas.List.{append-nil}

pub top_of_at : {X : Type 0} (xs : List X) → top_of xs ≡ slice_get xs (length xs - 1)
top_of_at [] = refl
top_of_at (x ∷ []) = refl
top_of_at (x ∷ y ∷ ys) = grind (arith, top_of_at (y ∷ ys))

pub top_of-push : {X : Type 0} (xs : List X) (y : X) → top_of (xs ++ y ∷ []) ≡ Some y
top_of-push [] y = refl
top_of-push (x ∷ xs) y = grind (arith, top_of-push xs y)

pub last_range-push : (q : ℕ) (xs : List (ℕ × ℕ)) (y : ℕ × ℕ) → last_range q (xs ++ y ∷ []) ≡ cond (nat_le q y.1) (Some y.0) (last_range q xs)
last_range-push q [] y = grind arith
last_range-push q (x ∷ xs) y = grind (arith, last_range-push q xs y)

not_le : (q e p : ℕ) → p ≤ q → nat_lt e p ≡ true → nat_le q e ≡ false
not_le q e p le lt = grind (arith, nat_tests)

-- a range on top that ends before p is not the last that ends at q or later, for q from p on
pub dropped : (p q : ℕ) (xs ys : List (ℕ × ℕ)) (o : Option (ℕ × ℕ)) → p ≤ q → xs ≡ ys ++ option_to_list o → ends_before p (top_of xs) ≡ true →
    last_range q ys ≡ last_range q xs
dropped p q xs ys None le is ended = ap (last_range q) (sym (is ∙ append-nil ys))
dropped p q xs ys (Some r) le is ended =
    let top : nat_lt r.1 p ≡ true = sym (ap (ends_before p) (ap top_of is ∙ top_of-push ys r)) ∙ ended in
    sym (ap (last_range q) is ∙ last_range-push q ys r ∙ ap (λ b. cond b (Some r.0) (last_range q ys)) (not_le q r.1 p le top))

some_or : {X : Type 0} (o : Option X) (x : X) → (y : X) × (option_or o (Some x) ≡ Some y)
some_or None x = (x, refl)
some_or (Some y) x = (y, refl)

le_of : (q e : ℕ) → nat_lt e q ≡ false → nat_le q e ≡ true
le_of q e h = grind (arith, nat_tests)

-- a range on top that does not end before q is the last that ends at q or later
pub top_is : (q : ℕ) (xs : List (ℕ × ℕ)) → ends_before q (top_of xs) ≡ false → option_map (λ t. t.0) (top_of xs) ≡ last_range q xs
top_is q [] e = refl
top_is q (x ∷ []) e = sym (ap (λ b. cond b (Some x.0) None) (le_of q x.1 e))
top_is q (x ∷ y ∷ ys) e =
    let some = some_or (top_of ys) y in
    let same : top_of (x ∷ y ∷ ys) ≡ top_of (y ∷ ys) = ap (λ o. option_or o (Some x)) some.1 ∙ sym some.1 in
    let rest : option_map (λ t. t.0) (top_of (y ∷ ys)) ≡ last_range q (y ∷ ys) = top_is q (y ∷ ys) (sym (ap (ends_before q) same) ∙ e) in
    let found : last_range q (y ∷ ys) ≡ Some some.0.0 = sym rest ∙ ap (option_map (λ t. t.0)) some.1 in
    ap (option_map (λ t. t.0)) same ∙ ap (option_map (λ t. t.0)) some.1
    ∙ sym (ap (λ o. option_or o (cond (nat_le q x.1) (Some x.0) None)) found)

-- the stack with the range that begins at p on top answers from p + 1 on
pub stack_step : (q p : ℕ) (ends : List ℕ) (old new : List (ℕ × ℕ)) → p < length ends → new ≡ old ++ (p, get_or ends p 0) ∷ [] →
    last_range q old ≡ last_place (λ end. nat_le q end) (take p ends) → last_range q new ≡ last_place (λ end. nat_le q end) (take (p + 1) ends)
stack_step q p ends old new h is before =
    let count : length (take p ends) ≡ p = grind (arith, common_steps) in
    ap (last_range q) is ∙ last_range-push q old (p, get_or ends p 0)
    ∙ ap (λ o. cond (nat_le q (get_or ends p 0)) (Some p) o) before
    ∙ sym (ap (last_place (λ end. nat_le q end)) (take_more ends p 0 h) ∙ last_place-push (λ end. nat_le q end) (take p ends) (get_or ends p 0)
    ∙ ap (λ n. cond (nat_le q (get_or ends p 0)) (Some n) (last_place (λ end. nat_le q end) (take p ends))) count)

pub found_step : (right : ℕ → Option ℕ) (p : ℕ) (old new : List (Option ℕ)) (x : Option ℕ) → length old ≡ p → new ≡ old ++ x ∷ [] →
    ((n : ℕ) → n < p → get_or old n None ≡ right n) → x ≡ right p → (n : ℕ) → n < p + 1 → get_or new n None ≡ right n
found_step right p old new x count is below here n h =
    below_more (λ m. get_or new m None ≡ right m) p
    (λ m l. let within : m < length old = omega arith in grind (arith, common_steps, below m l))
    (grind (arith, common_steps, here)) n h
