-- Each variable of a program is the first of its key.
use Rattle.std.proofs.Common.{◌≡◌, ℕ, zero, suc, ◌+◌, Bool, true, false, true≢false, List, [], ◌∷◌, Some, refl, sym, ap, ◌∙◌, arith, if◌then◌else◌, ◌&&◌}
use Rattle.std.specs.Prelude.{nat_eq, option_map}
use Rattle.std.specs.List.{list_any, slice_get}
use Rattle.std.specs.Str.{bytes_eq}
use Rattle.std.proofs.lemmas.Bool.{eqb-true, eq-eqb}
use Rattle.std.proofs.lemmas.Option.{none-some, same_Some}
use Rattle.rule_table.specs.Words.{first_place}
use Rattle.efl_scope.specs.Marks.{Located, same_located, distinct}
use Rattle.efl_typed.proofs.FoundLemmas.{both, neither}
use Rattle.efl_lowered.proofs.Lists.{false_from, same_text, text_is}
use Rattle.efl_lowered.proofs.TypedCalls.{and_true}

-- ---- keys ----

-- both have the key
record IsAlike (a b : Located) : Type 0 where
  unit : a.unit ≡ b.unit
  home : a.variable.home ≡ b.variable.home
  name : a.variable.name ≡ b.variable.name

alike : (a b : Located) → same_located a b ≡ true → IsAlike a b
alike a b h =
    let one = both (nat_eq a.unit b.unit) (bytes_eq a.variable.home b.variable.home && bytes_eq a.variable.name b.variable.name) h in
    let two = both (bytes_eq a.variable.home b.variable.home) (bytes_eq a.variable.name b.variable.name) one.1 in
    record { unit = eqb-true a.unit b.unit one.0; home = text_is a.variable.home b.variable.home two.0; name = text_is a.variable.name b.variable.name two.1 }

pub of_key : (a b : Located) → a.unit ≡ b.unit → a.variable.home ≡ b.variable.home → a.variable.name ≡ b.variable.name → same_located a b ≡ true
of_key a b unit home name =
    and_true (nat_eq a.unit b.unit) _ (eq-eqb a.unit b.unit unit)
    (and_true (bytes_eq a.variable.home b.variable.home) (bytes_eq a.variable.name b.variable.name)
    (ap (bytes_eq a.variable.home) (sym home) ∙ same_text a.variable.home) (ap (bytes_eq a.variable.name) (sym name) ∙ same_text a.variable.name))

-- what has one key with a third has it with each other
keys_meet : (k a b : Located) → same_located k a ≡ true → same_located k b ≡ true → same_located a b ≡ true
keys_meet k a b h g =
    let s = alike k a h in let t = alike k b g in of_key a b (sym s.unit ∙ t.unit) (sym s.home ∙ t.home) (sym s.name ∙ t.name)

-- ---- places ----

-- none of those before has the key of a later one
fresh : (before xs : List Located) (v : ℕ) (x : Located) → slice_get (distinct before xs) v ≡ Some x → list_any (same_located x) before ≡ false
fresh before [] v x e = absurd (none-some x e)
fresh before (y ∷ xs) v x e = by_test (list_any (same_located y) before) refl (λ g. fresh before xs v x g) (λ i g. fresh (y ∷ before) xs i x g) e
  where
    behind : (i : ℕ) → list_any (same_located y) before ≡ false → ((i : ℕ) → slice_get (distinct (y ∷ before) xs) i ≡ Some x → list_any (same_located x) (y ∷ before) ≡ false) → slice_get (y ∷ distinct (y ∷ before) xs) i ≡ Some x → list_any (same_located x) before ≡ false
    behind zero t later g = ap (λ z. list_any (same_located z) before) (sym (same_Some y x g)) ∙ t
    behind (suc i) t later g = (neither (same_located x y) (list_any (same_located x) before) (later i g)).1

    by_test : (b : Bool) → list_any (same_located y) before ≡ b → (slice_get (distinct before xs) v ≡ Some x → list_any (same_located x) before ≡ false) → ((i : ℕ) → slice_get (distinct (y ∷ before) xs) i ≡ Some x → list_any (same_located x) (y ∷ before) ≡ false) → slice_get (if b then distinct before xs else (y ∷ distinct (y ∷ before) xs)) v ≡ Some x → list_any (same_located x) before ≡ false
    by_test true t same later g = same g
    by_test false t same later g = behind v t later g

-- the first with the key of one is this one
pub first_of_key : (k : Located) (before xs : List Located) (v : ℕ) (x : Located) → slice_get (distinct before xs) v ≡ Some x → same_located k x ≡ true → first_place (same_located k) (distinct before xs) ≡ Some v
first_of_key k before [] v x e h = absurd (none-some x e)
first_of_key k before (y ∷ xs) v x e h = by_test (list_any (same_located y) before) (λ g. first_of_key k before xs v x g h) (λ i g. first_of_key k (y ∷ before) xs i x g h) e
  where
    behind : (i : ℕ) → ((i : ℕ) → slice_get (distinct (y ∷ before) xs) i ≡ Some x → first_place (same_located k) (distinct (y ∷ before) xs) ≡ Some i) → slice_get (y ∷ distinct (y ∷ before) xs) i ≡ Some x → first_place (same_located k) (y ∷ distinct (y ∷ before) xs) ≡ Some i
    behind zero later g = ap (λ b. if b then Some 0 else option_map (λ n. n + 1) (first_place (same_located k) (distinct (y ∷ before) xs))) (ap (same_located k) (same_Some y x g) ∙ h)
    behind (suc i) later g =
        let other : same_located x y ≡ false = (neither (same_located x y) (list_any (same_located x) before) (fresh (y ∷ before) xs i x g)).0 in
        let no : same_located k y ≡ false = false_from (same_located k y) (λ t. true≢false (sym (keys_meet k x y h t) ∙ other)) in
        let next : i + 1 ≡ suc i = omega arith in
        ap (λ b. if b then Some 0 else option_map (λ n. n + 1) (first_place (same_located k) (distinct (y ∷ before) xs))) no ∙ ap (option_map (λ n. n + 1)) (later i g) ∙ ap Some next

    by_test : (b : Bool) → (slice_get (distinct before xs) v ≡ Some x → first_place (same_located k) (distinct before xs) ≡ Some v) → ((i : ℕ) → slice_get (distinct (y ∷ before) xs) i ≡ Some x → first_place (same_located k) (distinct (y ∷ before) xs) ≡ Some i) → slice_get (if b then distinct before xs else (y ∷ distinct (y ∷ before) xs)) v ≡ Some x → first_place (same_located k) (if b then distinct before xs else (y ∷ distinct (y ∷ before) xs)) ≡ Some v
    by_test true same later g = same g
    by_test false same later g = behind v later g
