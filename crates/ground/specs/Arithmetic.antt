-- Arithmetic on integers of a bounded magnitude, each operation with its traps.
use Rattle.std.specs.Prelude.{ℕ, ◌≤◌, zero, ℤ, pos, negsuc, ◌+ℤ◌, ◌-ℤ◌, ◌*ℤ◌, unsigned_abs, int_div, int_rem, nat_le, if◌then◌else◌, Result, Ok, Err}
use Rattle.std.specs.Int.{int_pow}
use Rattle.ground.specs.declared.trap.Trap.{Trap}
use Rattle.ground.specs.declared.trap.Trap.TheVariants.{Overflow, Division, Power}

-- the greatest magnitude of an integer
abbrev pub greatest : ℕ
greatest = 2147483647

pub record IsInRange (z : ℤ) : Type 0 where
  pub magnitude : unsigned_abs z ≤ greatest

-- the exact number, where it is in range
abbrev pub in_range : ℤ → Result ℤ Trap
in_range z = if nat_le (unsigned_abs z) greatest then Ok z else Err Overflow

abbrev pub sum : ℤ → ℤ → Result ℤ Trap
sum a b = in_range (a +ℤ b)

abbrev pub difference : ℤ → ℤ → Result ℤ Trap
difference a b = in_range (a -ℤ b)

abbrev pub product : ℤ → ℤ → Result ℤ Trap
product a b = in_range (a *ℤ b)

-- truncated toward zero
abbrev pub quotient : ℤ → ℤ → Result ℤ Trap
quotient a (pos zero) = Err Division
quotient a b = in_range (int_div a b)

-- with the sign of the dividend
abbrev pub remainder : ℤ → ℤ → Result ℤ Trap
remainder a (pos zero) = Err Division
remainder a b = in_range (int_rem a b)

-- no negative exponent, and no zero to zero
abbrev pub power : ℤ → ℤ → Result ℤ Trap
power (pos zero) (pos zero) = Err Power
power a (negsuc n) = Err Power
power a (pos n) = in_range (int_pow a n)
