-- Places that are counted up to a limit.
use Rattle.std.proofs.Common.{◌≡◌, ◌≤◌, ℕ, zero, suc, ◌+◌, ◌*◌, sym, ap, ◌∙◌, arith}
use Rattle.efl_scoped.specs.Told.{capped}

pub capped_sum : (a b : ℕ) → capped (capped a + b) ≡ capped (a + b)
capped_sum a b = omega arith

pub capped_both : (a b : ℕ) → capped (capped a + capped b) ≡ capped (a + b)
capped_both a b = omega arith

pub capped_again : (a : ℕ) → a ≤ 32768 → capped a ≡ a
capped_again a small = omega (arith, small)

pub capped_times : (a b : ℕ) → capped (capped a * b) ≡ capped (a * b)
capped_times a zero = grind arith
capped_times a (suc b) = grind arith

turn : (a b : ℕ) → a * b ≡ b * a
turn a b = grind arith

pub times_capped : (a b : ℕ) → capped (a * capped b) ≡ capped (a * b)
times_capped a b = ap capped (turn a (capped b)) ∙ capped_times b a ∙ ap capped (turn b a)

-- one bound more, whose count is m
pub bound_counted : (rest places m many new all : ℕ) → capped ((many * rest) * places) ≡ all → capped m ≡ capped many → new ≡ capped (places * m) → capped (rest * new) ≡ all
bound_counted rest places m many new all is same counted =
    ap (λ x. capped (rest * x)) counted ∙ times_capped rest (places * m) ∙ ap capped (first rest places m) ∙ sym (times_capped (rest * places) m)
    ∙ ap (λ x. capped (rest * places * x)) same ∙ times_capped (rest * places) many ∙ ap capped (last rest places many) ∙ is
  where
    first : (r p m : ℕ) → r * (p * m) ≡ r * p * m
    first r p m = grind arith

    last : (r p m : ℕ) → r * p * m ≡ m * r * p
    last r p m = grind arith
