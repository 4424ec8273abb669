-- Names that are made tell their letters and numbers, and are neither kept ones nor intrinsic functions'.
use Rattle.std.proofs.Common.{◌≡◌, ℕ, ◌+◌, ◌*◌, ◌-◌, ◌/◌, ◌%◌, ◌<◌, ◌≤◌, true, false, [], ◌∷◌, refl, arith, ◌&&◌}
use Rattle.std.specs.Prelude.{nat_le}
use Rattle.std.proofs.lemmas.Bool.{le-leb, and_from}
use Rattle.std.proofs.Math.Nat.{div-one}
use Rattle.f66_tree.specs.Syntax.{Text}
use Rattle.efl_emit.specs.Names.{digit_at}
use Rattle.efl_naming.specs.Choice.{made, is_digit, is_made, is_intrinsic}

-- ---- digits ----

digit_is : (n unit : ℕ) → is_digit (digit_at n unit) ≡ true
digit_is n unit = and_from (nat_le 48 (digit_at n unit)) (nat_le (digit_at n unit) 57) (le-leb 48 (digit_at n unit) (omega arith)) (le-leb (digit_at n unit) 57 (omega arith))

-- each digit and those before it
at_10000 : (n : ℕ) → n < 100000 → n / 10000 ≡ n / 10000 % 10
at_10000 n small = omega arith

at_1000 : (n : ℕ) → n / 1000 ≡ 10 * (n / 10000) + n / 1000 % 10
at_1000 n = omega arith

at_100 : (n : ℕ) → n / 100 ≡ 10 * (n / 1000) + n / 100 % 10
at_100 n = omega arith

at_10 : (n : ℕ) → n / 10 ≡ 10 * (n / 100) + n / 10 % 10
at_10 n = omega arith

at_1 : (n : ℕ) → n ≡ 10 * (n / 10) + n / 1 % 10
at_1 n = let one : n / 1 ≡ n = div-one n in omega (one, arith)

-- the number that five digits stand for
abbrev five : ℕ → ℕ → ℕ → ℕ → ℕ → ℕ
five a b c d e = 10 * (10 * (10 * (10 * (a - 48) + (b - 48)) + (c - 48)) + (d - 48)) + (e - 48)

-- the letter of a name, and the number behind it
abbrev pub letter_in : Text → ℕ
letter_in [] = 0
letter_in (c ∷ cs) = c

abbrev pub number_in : Text → ℕ
number_in (x ∷ a ∷ b ∷ c ∷ d ∷ e ∷ []) = five a b c d e
number_in _ = 0

pub number_told : (letter n : ℕ) → n < 100000 → number_in (made letter n) ≡ n
number_told letter n small =
    let a = at_10000 n small in let b = at_1000 n in let c = at_100 n in let d = at_10 n in let e = at_1 n in omega (a, b, c, d, e, arith)

-- ---- what is made ----

pub made_is : (letter n : ℕ) → 88 ≤ letter → letter ≤ 90 → is_made (made letter n) ≡ true
made_is letter n low high =
    and_from (nat_le 88 letter && nat_le letter 90) _ (and_from (nat_le 88 letter) (nat_le letter 90) (le-leb 88 letter low) (le-leb letter 90 high))
    (and_from (is_digit (digit_at n 10000)) _ (digit_is n 10000)
    (and_from (is_digit (digit_at n 1000)) _ (digit_is n 1000)
    (and_from (is_digit (digit_at n 100)) _ (digit_is n 100)
    (and_from (is_digit (digit_at n 10)) _ (digit_is n 10)
    (and_from (is_digit (digit_at n 1)) _ (digit_is n 1) refl)))))

pub x_no_intrinsic : (n : ℕ) → is_intrinsic (made 88 n) ≡ false
x_no_intrinsic n = refl

pub y_no_intrinsic : (n : ℕ) → is_intrinsic (made 89 n) ≡ false
y_no_intrinsic n = refl

pub z_no_intrinsic : (n : ℕ) → is_intrinsic (made 90 n) ≡ false
z_no_intrinsic n = refl
