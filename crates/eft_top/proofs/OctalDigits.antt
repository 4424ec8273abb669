-- Octal digits from the last to the first.
use Rattle.std.proofs.Common.{◌≡◌, ◌<◌, ◌+◌, ◌-◌, ◌/◌, ◌%◌, ◌==◌, ℕ, zero, suc, Bool, true, false, nat_lt, List, [], ◌∷◌, length, drop, refl, ◌∙◌, ap, arith, set}
use Rattle.std.specs.Prelude.{if◌then◌else◌}
use Rattle.std.specs.Fmt.{digits, digits_onto, digit_glyph}
use Rattle.std.proofs.lemmas.Bool.Decides.{nat_tests}
use Rattle.std.proofs.lemmas.List.{drop-set}

pub all_digits : (n : ℕ) → digits_onto 64 8 false n [] ≡ digits 8 false n
unfolding digits
all_digits n = refl

glyph : (n : ℕ) → digit_glyph false (n % 8) ≡ 48 + n % 8
glyph n = let small : nat_lt (n % 8) 10 ≡ true = grind (arith, nat_tests) in ap (λ (b : Bool). if b then 48 + n % 8 else 87 + n % 8) small

module _ (n : ℕ) (acc : List ℕ) where
  one_more : (k : ℕ) (b : Bool) → (n / 8 == 0) ≡ b → digits_onto (suc k) 8 false n acc ≡ (if b then (48 + n % 8) ∷ acc else digits_onto k 8 false (n / 8) ((48 + n % 8) ∷ acc))
  one_more k b e =
      ap (λ (b : Bool). if b then digit_glyph false (n % 8) ∷ acc else digits_onto k 8 false (n / 8) (digit_glyph false (n % 8) ∷ acc)) e
      ∙ ap (λ (g : ℕ). if b then g ∷ acc else digits_onto k 8 false (n / 8) (g ∷ acc)) (glyph n)

  pub last_digit : (k : ℕ) → 0 < k → n / 8 ≡ 0 → digits_onto k 8 false n acc ≡ (48 + n % 8) ∷ acc
  last_digit zero some e = absurd (omega arith)
  last_digit (suc k) some e = one_more k true (let is : (n / 8 == 0) ≡ true = grind (arith, nat_tests, e) in is)

  pub next_digit : (k : ℕ) → 0 < k → (n / 8 ≡ 0 → ⊥) → digits_onto k 8 false n acc ≡ digits_onto (k - 1) 8 false (n / 8) ((48 + n % 8) ∷ acc)
  next_digit zero some e = absurd (omega arith)
  next_digit (suc k) some e =
      one_more k false (let is : (n / 8 == 0) ≡ false = grind (arith, nat_tests, e) in is) ∙ ap (λ (j : ℕ). digits_onto j 8 false (n / 8) ((48 + n % 8) ∷ acc)) {x = k} {y = suc k - 1} (omega arith)

-- one more digit in the buffer
pub in_front : (buffer : List ℕ) (at digit : ℕ) → 0 < at → at < suc (length buffer) → drop (at - 1) (set buffer (at - 1) digit) ≡ digit ∷ drop at buffer
in_front buffer at digit some within = drop-set buffer (at - 1) digit (omega arith) ∙ ap (λ (n : ℕ). digit ∷ drop n buffer) {x = at - 1 + 1} {y = at} (omega arith)
