-- Numbers that rise towards numbers that fall along each edge.
use Rattle.std.proofs.Common.{◌≡◌, ◌<◌, ◌≤◌, ◌+◌, ◌*◌, ◌-◌, ◌&&◌, ℕ, zero, suc, Bool, true, false, not, List, [], ◌∷◌, length, sum, get_or, set, refl, sym, ap, subst, ◌∙◌, arith, inl, inr}
use Rattle.std.specs.Prelude.{slice_index_or}
use Rattle.std.proofs.lemmas.Bool.{cases_lt}
use Rattle.std.proofs.lemmas.List.{length-set}
use Rattle.std.proofs.lemmas.List.Sums.{sum_by-set, sum_by-cons}
use Rattle.call_cycles.specs.declared.edge.Edge.{Edge}
use Rattle.call_cycles.specs.Cycles.{edge_at, AreWithin}
use Rattle.code_layout.specs.Ranks.{CanRise, IsLifted}

-- after the first so many edges of a pass
pub record InPass (edges : List Edge) (old now : List ℕ) (quiet : Bool) (n : ℕ) : Type 0 where
  pub many : length now ≡ length old
  pub rise : CanRise edges now
  pub more : sum old ≤ sum now
  pub loud : quiet ≡ false → sum old < sum now
  pub still : quiet ≡ true → now ≡ old
  pub fall : quiet ≡ true → (j : ℕ) → j < n → slice_index_or now (edge_at edges j).to 0 < slice_index_or now (edge_at edges j).from 0

set_sum : (xs : List ℕ) (i v : ℕ) → i < length xs → sum (set xs i v) + get_or xs i 0 ≡ sum xs + v
set_sum xs i v lt = sum_by-set (λ x. x) xs i v 0 lt

got_set : (xs : List ℕ) (i v u : ℕ) → i < length xs → (u ≡ i → get_or (set xs i v) u 0 ≡ v) × ((u ≡ i → ⊥) → get_or (set xs i v) u 0 ≡ get_or xs u 0)
got_set [] i v u lt = absurd (omega (arith, lt))
got_set (x ∷ xs) zero v zero lt = (λ e. refl, λ n. absurd (n refl))
got_set (x ∷ xs) zero v (suc u) lt = (λ e. absurd (omega (arith, e)), λ n. refl)
got_set (x ∷ xs) (suc i) v zero lt = (λ e. absurd (omega (arith, e)), λ n. refl)
got_set (x ∷ xs) (suc i) v (suc u) lt = (let h = got_set xs i v u (omega (arith, lt)) in (λ e. h.0 (omega (arith, e)), λ n. h.1 (λ e. n (ap suc e))))

many_under : (xs : List ℕ) (m : ℕ) → ((u : ℕ) → u < length xs → get_or xs u 0 ≤ m) → sum xs ≤ length xs * m
many_under [] m h = omega arith
many_under (x ∷ xs) m h = (let e : sum (x ∷ xs) ≡ x + sum xs = sum_by-cons (λ y. y) x xs in let a = many_under xs m (λ u lt. h (suc u) (omega (arith, lt))) in let b = h zero (omega arith) in omega (arith, a, b, e))

-- the sum stays below the square of their count
pub sum_small : (edges : List Edge) (xs : List ℕ) → CanRise edges xs → sum xs ≤ length xs * length xs
sum_small edges xs r = many_under xs (length xs) (λ u lt. let a = r.under u in let b = r.can.small u lt in omega (arith, a, b))

-- an end's number may be raised by one
pub may_rise : (edges : List Edge) (xs : List ℕ) → CanRise edges xs → (u : ℕ) → u < length xs → get_or xs u 0 < length xs
may_rise edges xs r u lt = (let a = r.under u in let b = r.can.small u lt in omega (arith, a, b))

module _ (edges : List Edge) (xs : List ℕ) (r : CanRise edges xs) (j : ℕ) (lt : j < length edges) (from_in : (edge_at edges j).from < length xs) where
  abbrev e : Edge
  e = edge_at edges j

  abbrev ys : List ℕ
  ys = set xs e.from (get_or xs e.to 0 + 1)

  many_more : length ys ≡ length xs
  many_more = length-set xs e.from (get_or xs e.to 0 + 1)

  under : (u : ℕ) → get_or ys u 0 ≤ r.can.rank u
  under u = elim (cases_lt u e.from) [
    | inl l ↦ (let g = (got_set xs e.from (get_or xs e.to 0 + 1) u from_in).1 (λ q. omega (arith, q, l)) in let a = r.under u in omega (arith, g, a))
    | inr l ↦ elim (cases_lt e.from u) [
      | inl k ↦ (let g = (got_set xs e.from (get_or xs e.to 0 + 1) u from_in).1 (λ q. omega (arith, q, k)) in let a = r.under u in omega (arith, g, a))
      | inr k ↦
          let q : e.from ≡ u = omega (arith, l, k) in
          let g = (got_set xs e.from (get_or xs e.to 0 + 1) e.from from_in).0 refl in
          let a = r.under e.to in
          let b = r.can.falls j lt in
          subst (λ n. get_or ys n 0 ≤ r.can.rank n) q (omega (arith, g, a, b))
    ]
  ]

  lifted : CanRise edges ys
  lifted = record { can = record { rank = r.can.rank; falls = r.can.falls; small = λ u l. (let m = many_more in let b = r.can.small u (omega (arith, m, l)) in omega (arith, m, b)) }; under = under }

  grown : get_or xs e.from 0 ≤ get_or xs e.to 0 → sum xs < sum ys
  grown le = (let s = set_sum xs e.from (get_or xs e.to 0 + 1) from_in in omega (arith, s, le))

quiet_both : (b l : Bool) → (b && not l) ≡ true → (b ≡ true) × (l ≡ false)
quiet_both true false e = (refl, refl)
quiet_both true true e = absurd (cc)
quiet_both false l e = absurd (cc)

below_next : (j n : ℕ) → j < n + 1 → (j ≡ n → ⊥) → j < n
below_next j n lt ne = elim (cases_lt j n) [ inl l ↦ l | inr l ↦ absurd (ne (omega (arith, lt, l))) ]

-- one edge more
pub pass_step : (edges : List Edge) (old now new : List ℕ) (quiet lifted next : Bool) (n : ℕ) → n < length edges → AreWithin (length old) edges → InPass edges old now quiet n →
    IsLifted (edge_at edges n) now new lifted → next ≡ (quiet && not lifted) → InPass edges old new next (n + 1)
pass_step edges old now new quiet true next n lt within p h e =
    let from_in : (edge_at edges n).from < length now = (let w = (within n lt).0 in let m = p.many in omega (arith, w, m)) in
    let more = grown edges now p.rise n lt from_in h.0 in
    let before = p.more in
    let sums : sum old < sum new = subst (λ xs. sum old < sum xs) (sym h.1) (omega (arith, more, before)) in
    record {
      many = ap length h.1 ∙ many_more edges now p.rise n lt from_in ∙ p.many;
      rise = subst (CanRise edges) (sym h.1) (lifted edges now p.rise n lt from_in);
      more = omega (arith, sums);
      loud = λ f. sums;
      still = λ t. absurd (let q = quiet_both quiet true (sym e ∙ t) in let f = q.1 in cc);
      fall = λ t. absurd (let q = quiet_both quiet true (sym e ∙ t) in let f = q.1 in cc);
    }
pass_step edges old now new quiet false next n lt within p h e =
    let same : (next ≡ quiet) = e ∙ kept quiet in
    record {
      many = ap length h.1 ∙ p.many;
      rise = subst (CanRise edges) (sym h.1) p.rise;
      more = subst (λ xs. sum old ≤ sum xs) (sym h.1) p.more;
      loud = λ f. subst (λ xs. sum old < sum xs) (sym h.1) (p.loud (sym same ∙ f));
      still = λ t. h.1 ∙ p.still (sym same ∙ t);
      fall = λ t j l. subst (λ xs. slice_index_or xs (edge_at edges j).to 0 < slice_index_or xs (edge_at edges j).from 0) (sym h.1) (falls_at j l (p.fall (sym same ∙ t)));
    }
  where
    kept : (b : Bool) → (b && true) ≡ b
    kept true = refl
    kept false = refl

    falls_at : (j : ℕ) → j < n + 1 → ((j : ℕ) → j < n → slice_index_or now (edge_at edges j).to 0 < slice_index_or now (edge_at edges j).from 0) → slice_index_or now (edge_at edges j).to 0 < slice_index_or now (edge_at edges j).from 0
    falls_at j l f = elim (cases_lt j n) [ inl k ↦ f j k | inr k ↦ (let q : n ≡ j = omega (arith, l, k) in subst (λ i. slice_index_or now (edge_at edges i).to 0 < slice_index_or now (edge_at edges i).from 0) q h.0) ]

-- the greatest sum leaves less behind
pub less_left : (m n a b : ℕ) → n ≡ m → a < b → b ≤ m * m → n * n - b < m * m - a
less_left m n a b e lt le = subst (λ k. k * k - b < m * m - a) (sym e) (omega (arith, lt, le))
