-- Where a part of a run comes to: another part, with so many statements begun on the way. By this a target follows its source,
-- whatever the source's language is.
use Rattle.std.proofs.Common.{◌≡◌, ℕ, zero, suc, ◌+◌, ◌<◌, ap, ◌∙◌, arith}
use Rattle.std.specs.Prelude.{⊤}
use Rattle.f66_tree.specs.World.{State, World, Out}

abbrev pub at : State → ℕ → ℕ → World
at s k c = record { state = s; left = k; count = c }

pub still : (s : State) (k c : ℕ) → at s (0 + k) c ≡ at s k (c + 0)
still s k c =
    let e : 0 + k ≡ k = omega arith in
    let g : c ≡ c + 0 = omega arith in
    ap (λ n. at s n c) e ∙ ap (λ n. at s k n) g

-- what a part does, by its fuel
abbrev pub Part : Type 0
Part = ℕ → World → Out ⊤

-- the part t comes to the part t1 with d statements; the fuel stays above the bound's rest
pub record Comes (t : Part) (s : State) (t1 : Part) (s1 : State) (d : ℕ) : Type 0 where
  pub by : (n k c : ℕ) → d + k < n → (g : ℕ) × (k < g) × (t n (at s (d + k) c) ≡ t1 g (at s1 k (c + d)))

pub comes_here : (t : Part) (s : State) → Comes t s t s 0
comes_here t s = record { by = λ n k c lt. (n, omega arith, ap (t n) (still s k c)) }

pub comes_on : {t0 t1 t2 : Part} {s0 s1 s2 : State} {a b : ℕ} → Comes t0 s0 t1 s1 a → Comes t1 s1 t2 s2 b → Comes t0 s0 t2 s2 (a + b)
comes_on {t0} {t1} {t2} {s0} {s1} {s2} {a} {b} l m = record {
  by = λ n k c lt.
      let e : a + b + k ≡ a + (b + k) = omega arith in
      let g : c + a + b ≡ c + (a + b) = omega arith in
      let p = l.by n (b + k) c (omega arith) in
      let q = m.by p.0 k (c + a) p.1 in
      (q.0, q.1, ap (λ v. t0 n (at s0 v c)) e ∙ p.2 ∙ q.2 ∙ ap (λ v. t2 q.0 (at s2 k v)) g);
}

-- one statement begins
pub one : (t t1 : Part) (s : State) → ((n k c : ℕ) → t (suc n) (at s (suc k) c) ≡ t1 n (at s k (c + 1))) → Comes t s t1 s 1
one t t1 s is = record { by = go }
  where
    go : (n k c : ℕ) → 1 + k < n → (g : ℕ) × (k < g) × (t n (at s (1 + k) c) ≡ t1 g (at s k (c + 1)))
    go zero k c lt = absurd (omega arith)
    go (suc n) k c lt =
        let e : 1 + k ≡ suc k = omega arith in
        (n, omega arith, ap (λ v. t (suc n) (at s v c)) e ∙ is n k c)

-- nothing is begun
pub none_begun : (t t1 : Part) (s : State) → ((n k c : ℕ) → t n (at s k c) ≡ t1 n (at s k c)) → Comes t s t1 s 0
none_begun t t1 s is = record { by = λ n k c lt. (n, omega arith, is n (0 + k) c ∙ ap (t1 n) (still s k c)) }
