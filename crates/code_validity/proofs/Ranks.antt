-- How many of some units have a lesser rank: no more than there are, and fewer for a unit that has a lesser rank itself.
use Rattle.std.proofs.Common.{◌≡◌, cond, ℕ, suc, ◌<◌, ◌≤◌, inl, inr, nat_lt, Bool, true, false, List, [], ◌∷◌, length, refl, subst, arith}
use Rattle.std.proofs.lemmas.Bool.{ltb-true, ltb-false}
use Rattle.code_gen.specs.Behaves.{IsAmong}

abbrev pub lesser : (ℕ → ℕ) → List ℕ → ℕ → ℕ
lesser rank [] n = 0
lesser rank (v ∷ vs) n = cond (nat_lt (rank v) n) (suc (lesser rank vs n)) (lesser rank vs n)

pub few_lesser : (rank : ℕ → ℕ) (us : List ℕ) (n : ℕ) → lesser rank us n ≤ length us
few_lesser rank [] n = omega arith
few_lesser rank (v ∷ vs) n = few_by (nat_lt (rank v) n) (lesser rank vs n) (length vs) (few_lesser rank vs n)
  where
    few_by : (b : Bool) (k m : ℕ) → k ≤ m → cond b (suc k) k ≤ suc m
    few_by true k m h = omega (arith, h)
    few_by false k m h = omega (arith, h)

more_by : (rank : ℕ → ℕ) (v m n k j : ℕ) (a b : Bool) → m ≤ n → nat_lt (rank v) m ≡ a → nat_lt (rank v) n ≡ b → k ≤ j → cond a (suc k) k ≤ cond b (suc j) j
more_by rank v m n k j true true le ea eb h = omega (arith, h)
more_by rank v m n k j true false le ea eb h = let lt = ltb-true (rank v) m ea in let ge = ltb-false (rank v) n eb in absurd (omega (arith, lt, ge, le))
more_by rank v m n k j false true le ea eb h = omega (arith, h)
more_by rank v m n k j false false le ea eb h = h

more_lesser : (rank : ℕ → ℕ) (us : List ℕ) (m n : ℕ) → m ≤ n → lesser rank us m ≤ lesser rank us n
more_lesser rank [] m n le = omega arith
more_lesser rank (v ∷ vs) m n le = more_by rank v m n (lesser rank vs m) (lesser rank vs n) (nat_lt (rank v) m) (nat_lt (rank v) n) le refl refl (more_lesser rank vs m n le)

here_by : (r n k j : ℕ) (a b : Bool) → r < n → nat_lt r r ≡ a → nat_lt r n ≡ b → k ≤ j → cond a (suc k) k < cond b (suc j) j
here_by r n k j true b lt ea eb h = let l = ltb-true r r ea in absurd (omega (arith, l))
here_by r n k j false true lt ea eb h = omega (arith, h)
here_by r n k j false false lt ea eb h = let ge = ltb-false r n eb in absurd (omega (arith, ge, lt))

later_by : (r m n k j : ℕ) (a b : Bool) → m < n → nat_lt r m ≡ a → nat_lt r n ≡ b → k < j → cond a (suc k) k < cond b (suc j) j
later_by r m n k j true true lt ea eb h = omega (arith, h)
later_by r m n k j true false lt ea eb h = let l = ltb-true r m ea in let ge = ltb-false r n eb in absurd (omega (arith, l, ge, lt))
later_by r m n k j false true lt ea eb h = omega (arith, h)
later_by r m n k j false false lt ea eb h = h

pub fewer_lesser : (rank : ℕ → ℕ) (v n : ℕ) (us : List ℕ) → IsAmong v us → rank v < n → lesser rank us (rank v) < lesser rank us n
fewer_lesser rank v n [] among lt = absurd among
fewer_lesser rank v n (w ∷ ws) (inl e) lt =
    subst (λ x. lesser rank (x ∷ ws) (rank v) < lesser rank (x ∷ ws) n) e
    (here_by (rank v) n (lesser rank ws (rank v)) (lesser rank ws n) (nat_lt (rank v) (rank v)) (nat_lt (rank v) n) lt refl refl (more_lesser rank ws (rank v) n (omega (arith, lt))))
fewer_lesser rank v n (w ∷ ws) (inr m) lt =
    later_by (rank w) (rank v) n (lesser rank ws (rank v)) (lesser rank ws n) (nat_lt (rank w) (rank v)) (nat_lt (rank w) n) lt refl refl (fewer_lesser rank v n ws m lt)
