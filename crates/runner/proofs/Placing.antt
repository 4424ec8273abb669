-- How far an element lies by subscripts that are looked at only from above: one below one is as far as no array reaches.
use Rattle.std.proofs.Common.{◌≡◌, ℕ, zero, suc, ◌+◌, ◌*◌, ◌≤◌, ◌^◌, true, sym, arith, w32}
use Rattle.std.specs.Prelude.{ℤ, pos, negsuc, int_le}
use Rattle.std.specs.Int.{cast_unsigned}
use Rattle.std.proofs.lemmas.Bool.{true≢false, leb-true}
use Rattle.std.proofs.Math.Nat.{le-mul_of_pos_right}
use mir.Val.{SFits}

-- a dimension that is at least a subscript, which is at least one
pub some_rows : (i d : ℤ) → SFits w32 d → int_le (pos 1) i ≡ true → int_le i d ≡ true → 1 ≤ cast_unsigned w32 d
some_rows (pos zero) d f h g = absurd (true≢false (sym h))
some_rows (pos (suc k)) (pos zero) f h g = let le : suc k ≤ 0 = leb-true (suc k) 0 g in absurd (omega (arith, le))
some_rows (pos (suc k)) (pos (suc n)) f h g = omega arith
some_rows (pos (suc k)) (negsuc n) f h g = absurd (true≢false (sym g))
some_rows (negsuc k) d f h g = absurd (true≢false (sym h))

-- a second subscript below one is as far as no array reaches, by one row or more
pub far_over : (a b n : ℕ) → 1 ≤ n → 2 ^ 31 ≤ b + 1 → 2 ^ 31 ≤ a + b * n + 1
far_over a b n some over =
    let least : b ≤ b * n = le-mul_of_pos_right {m = n} b (omega (arith, some)) in
    omega (arith, least, over)
