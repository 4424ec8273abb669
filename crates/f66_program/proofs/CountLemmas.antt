-- Storage units are counted in one way: two numberings have the same total.
use Rattle.std.proofs.Common.{◌≡◌, ◌≢◌, ◌<◌, ◌≤◌, ◌⊎◌, ℕ, zero, suc, cond, eqb, List, Option, Some, sym, ◌∙◌, ap, refl, arith, inl, inr}
use Rattle.std.proofs.lemmas.Bool.{cases_eq, cases_lt, eq-eqb, ne_eqb}
use Rattle.f66_tree.specs.Syntax.{Text, Routine}
use Rattle.f66_program.specs.Association.{IsReal, IsNumbering}

-- where f takes the last number n, its value at m stands in for it
abbrev without : (ℕ → ℕ) → ℕ → ℕ → ℕ → ℕ
without f m n i = cond (eqb (f i) n) (f m) (f i)

without_last : (f : ℕ → ℕ) (m n i : ℕ) → f i ≡ n → without f m n i ≡ f m
without_last f m n i e = (let t = eq-eqb (f i) n e in rw t refl)

without_other : (f : ℕ → ℕ) (m n i : ℕ) → f i ≢ n → without f m n i ≡ f i
without_other f m n i ne = (let t = ne_eqb (f i) n ne in rw t refl)

module _ (n m : ℕ) (f : ℕ → ℕ) (below : (i : ℕ) → i < suc m → f i < suc n) (apart : (i j : ℕ) → i < suc m → j < suc m → f i ≡ f j → i ≡ j) where
  without_below : (i : ℕ) → i < m → without f m n i < n
  without_below i i_in = elim (cases_eq (f i) n) [
    | inl e ↦
        let ne : f m ≢ n = λ q. (let s = apart i m (omega arith) (omega arith) (e ∙ sym q) in omega (arith, s)) in
        let b = below m (omega arith) in
        rw (without_last f m n i e) (omega (arith, b, ne))
    | inr ne ↦ (let b = below i (omega arith) in rw (without_other f m n i ne) (omega (arith, b, ne)))
  ]

  without_apart : (i j : ℕ) → i < m → j < m → without f m n i ≡ without f m n j → i ≡ j
  without_apart i j i_in j_in e = elim (cases_eq (f i) n) [
    | inl p ↦ elim (cases_eq (f j) n) [
      | inl q ↦ apart i j (omega arith) (omega arith) (p ∙ sym q)
      | inr nq ↦ absurd (let s = apart m j (omega arith) (omega arith) (sym (without_last f m n i p) ∙ e ∙ without_other f m n j nq) in omega (arith, s))
    ]
    | inr np ↦ elim (cases_eq (f j) n) [
      | inl q ↦ absurd (let s = apart i m (omega arith) (omega arith) (sym (without_other f m n i np) ∙ e ∙ without_last f m n j q) in omega (arith, s))
      | inr nq ↦ apart i j (omega arith) (omega arith) (sym (without_other f m n i np) ∙ e ∙ without_other f m n j nq)
    ]
  ]

-- numbers below m that are different go into numbers below n only where m is at most n
pub pigeons : (n m : ℕ) (f : ℕ → ℕ) → ((i : ℕ) → i < m → f i < n) → ((i j : ℕ) → i < m → j < m → f i ≡ f j → i ≡ j) → m ≤ n
pigeons n zero f below apart = omega arith
pigeons zero (suc m) f below apart = absurd (let b = below m (omega arith) in omega (arith, b))
pigeons (suc n) (suc m) f below apart =
    let le : m ≤ n = pigeons n m (without f m n) (without_below n m f below apart) (without_apart n m f below apart) in omega (arith, le)

-- a place that has the number k in the one way and j in the other
record HasBoth (rs : List Routine) (one other : ℕ → Text → ℕ → Option ℕ) (n k j : ℕ) : Type 0 where
  unit : ℕ
  name : Text
  place : ℕ
  real : IsReal rs unit name place
  first : one unit name place ≡ Some k
  second : other unit name place ≡ Some j
  inside : j < n

module _ (rs : List Routine) (one other : ℕ → Text → ℕ → Option ℕ) (m n : ℕ) (v : IsNumbering rs one m) (w : IsNumbering rs other n) where
  pick : (k : ℕ) → (k < m) ⊎ (m ≤ k) → ℕ
  pick k (inl l) = (let p = v.onto k l in (w.below p.0 p.1 p.2 (v.real p.0 p.1 p.2 k p.3)).0)
  pick k (inr l) = 0

  picked : (k : ℕ) (s : (k < m) ⊎ (m ≤ k)) → k < m → HasBoth rs one other n k (pick k s)
  unfolding pick
  picked k (inl l) k_in =
      let p = v.onto k l in
      let r = v.real p.0 p.1 p.2 k p.3 in
      let b = w.below p.0 p.1 p.2 r in
      record { unit = p.0; name = p.1; place = p.2; real = r; first = p.3; second = b.1; inside = b.2 }
  picked k (inr l) k_in = absurd (omega (arith, l))

  image : ℕ → ℕ
  image k = pick k (cases_lt k m)

  has : (k : ℕ) → k < m → HasBoth rs one other n k (image k)
  unfolding image
  has k k_in = picked k (cases_lt k m) k_in

  image_apart : (i j : ℕ) → i < m → j < m → image i ≡ image j → i ≡ j
  image_apart i j i_in j_in e =
      let p = has i i_in in
      let q = has j j_in in
      let same = (w.same p.unit p.name p.place q.unit q.name q.place p.real q.real).0 (p.second ∙ ap Some e ∙ sym q.second) in
      let numbers = (v.same p.unit p.name p.place q.unit q.name q.place p.real q.real).1 same in
      let somes : Some i ≡ Some j = sym p.first ∙ numbers ∙ q.first in
      cc

  no_more : m ≤ n
  no_more = pigeons n m image (λ i i_in. (has i i_in).inside) image_apart

pub one_count : (rs : List Routine) (one other : ℕ → Text → ℕ → Option ℕ) (m n : ℕ) → IsNumbering rs one m → IsNumbering rs other n → m ≡ n
one_count rs one other m n v w = (let a = no_more rs one other m n v w in let b = no_more rs other one n m w v in omega (arith, a, b))
