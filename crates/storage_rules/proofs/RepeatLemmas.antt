-- Numbers that were seen before in a list.
use Rattle.std.proofs.Common.{◌≡◌, ◌<◌, ◌≤◌, ◌+◌, ◌∙◌, ◌∷◌, [], inl, inr, ℕ, zero, suc, Bool, true, false, not, cond, eqb, List, length, take, slice_index, refl, sym, ap, arith}
use Rattle.std.specs.Prelude.{◌||◌}
use Rattle.std.specs.List.{list_any}
use Rattle.std.proofs.lemmas.Bool.{cases_lt, eqb-true, eq-eqb, false_from_ne_true}
use Rattle.std.proofs.lemmas.List.Folds.{list_any_more}
use Rattle.storage_rules.specs.Repeats.{RepeatsAt, IsFirstRepeat, HasNoRepeat}

-- a number among the first k stands there
seen_at : (ns : List ℕ) (k n : ℕ) → k ≤ length ns → list_any (eqb n) (take k ns) ≡ true → (j : ℕ) × (j < k) × (slice_index ns j ≡ n)
seen_at [] zero n le e = absurd (cc)
seen_at [] (suc k) n le e = absurd (cc)
seen_at (m ∷ ns) zero n le e = absurd (cc)
seen_at (m ∷ ns) (suc k) n le e = at (eqb n m) refl (seen_at ns k n (omega (arith, le))) e
  where
    at : (b : Bool) → eqb n m ≡ b → (list_any (eqb n) (take k ns) ≡ true → (j : ℕ) × (j < k) × (slice_index ns j ≡ n)) → (b || list_any (eqb n) (take k ns)) ≡ true → (j : ℕ) × (j < suc k) × (slice_index (m ∷ ns) j ≡ n)
    at true t rest f = (0, omega arith, sym (eqb-true n m t))
    at false t rest f = (let w = rest f in (suc w.0, (let lt = w.1 in omega (arith, lt)), w.2))

at_seen : (ns : List ℕ) (k j n : ℕ) → j < k → k ≤ length ns → slice_index ns j ≡ n → list_any (eqb n) (take k ns) ≡ true
at_seen [] zero j n lt le e = absurd (omega (arith, lt))
at_seen [] (suc k) j n lt le e = absurd (omega (arith, le))
at_seen (m ∷ ns) zero j n lt le e = absurd (omega (arith, lt))
at_seen (m ∷ ns) (suc k) zero n lt le e = (let t = eq-eqb n m (sym e) in ap (λ b. b || list_any (eqb n) (take k ns)) t)
at_seen (m ∷ ns) (suc k) (suc j) n lt le e = later (eqb n m) (at_seen ns k j n (omega (arith, lt)) (omega (arith, le)) e)
  where
    later : (b : Bool) → list_any (eqb n) (take k ns) ≡ true → (b || list_any (eqb n) (take k ns)) ≡ true
    later true t = refl
    later false t = t

module _ (ns : List ℕ) (k : ℕ) (lt : k < length ns) (none : (i : ℕ) → i < k → ¬ RepeatsAt ns i) where
  pub repeat_here : list_any (eqb (slice_index ns k)) (take k ns) ≡ true → IsFirstRepeat ns k
  repeat_here t = (let w = seen_at ns k (slice_index ns k) (omega (arith, lt)) t in record { inside = lt; repeats = (w.0, w.1, w.2); earlier = none })

  pub none_more : list_any (eqb (slice_index ns k)) (take k ns) ≡ false → (i : ℕ) → i < k + 1 → ¬ RepeatsAt ns i
  none_more f i i_in r = elim (cases_lt i k) [
    | inl l ↦ none i l r
    | inr l ↦
        let e : i ≡ k = omega (arith, i_in, l) in
        let j_in : r.0 < k = (let a = r.1 in omega (arith, a, e)) in
        let t = at_seen ns k r.0 (slice_index ns k) j_in (omega (arith, lt)) (r.2 ∙ ap (slice_index ns) e) in
        cc
  ]

pub none_all : (ns : List ℕ) (k : ℕ) → length ns ≤ k → ((i : ℕ) → i < k → ¬ RepeatsAt ns i) → HasNoRepeat ns
none_all ns k le none i lt = none i (omega (arith, le, lt))

pub not_true : (b : Bool) → not b ≡ true → b ≡ false
not_true true e = absurd (cc)
not_true false e = refl

pub not_false : (b : Bool) → not b ≡ false → b ≡ true
not_false true e = refl
not_false false e = absurd (cc)

-- one number more is seen
pub seen_more : (ns : List ℕ) (k n : ℕ) → k < length ns → (a b : Bool) → a ≡ list_any (eqb n) (take k ns) → b ≡ cond (eqb (slice_index ns k) n) true a → b ≡ list_any (eqb n) (take (k + 1) ns)
seen_more ns k n lt a b e f = f ∙ at (eqb (slice_index ns k) n) refl ∙ sym (list_any_more (eqb n) ns k 0 lt)
  where
    or_true : (c : Bool) → (c || true) ≡ true
    or_true true = refl
    or_true false = refl

    or_false : (c : Bool) → (c || false) ≡ c
    or_false true = refl
    or_false false = refl

    at : (t : Bool) → eqb (slice_index ns k) n ≡ t → cond t true a ≡ (list_any (eqb n) (take k ns) || eqb n (slice_index ns k))
    at true t = (let s = eq-eqb n (slice_index ns k) (sym (eqb-true (slice_index ns k) n t)) in sym (ap (λ c. list_any (eqb n) (take k ns) || c) s ∙ or_true (list_any (eqb n) (take k ns))))
    at false t =
        let s : eqb n (slice_index ns k) ≡ false = false_from_ne_true (eqb n (slice_index ns k)) (λ u. (let v = eq-eqb (slice_index ns k) n (sym (eqb-true n (slice_index ns k) u)) in cc)) in
        e ∙ sym (ap (λ c. list_any (eqb n) (take k ns) || c) s ∙ or_false (list_any (eqb n) (take k ns)))
