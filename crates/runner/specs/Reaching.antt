-- How far the subscripts of an element reach, capped at more than the units of any store.
use Rattle.std.specs.Prelude.{◌≡◌, ℕ, zero, suc, ◌+◌, ◌*◌, ◌^◌, ◌≤◌, ℤ, pos, ◌-ℤ◌, unsigned_abs, int_le, nat_lt, ◌&&◌, List, get_or, Option, Some, None, if◌then◌else◌}
use Rattle.ground.specs.declared.trap.Trap.TheVariants.{Subscript}
use Rattle.f66_tree.specs.World.{Try, Yields, Traps}
use Rattle.f66_tree.specs.Statements.{times}
use Rattle.stack_code.specs.StackMachine.{Spot, At}
use Rattle.stack_code.specs.ValidCode.{and_then}
use Rattle.runner.specs.declared.words.Word.{Word}
use Rattle.runner.specs.declared.elements.Reach.{Reach}
use Rattle.runner.specs.Words.{Shows, blank}

abbrev pub capped : ℕ → ℕ
capped n = if nat_lt n (2 ^ 31) then n else 2 ^ 31

pub record IsCapped (r : Reach) : Type 0 where
  pub far : r.far ≤ 2 ^ 31
  pub step : r.step ≤ 2 ^ 31

-- with one more subscript and its dimension
abbrev pub advanced : Reach → ℤ → ℤ → Option Reach
advanced r i d =
    if int_le (pos 1) i && int_le i d then Some (record { far = capped (r.far + unsigned_abs (i -ℤ pos 1) * r.step); step = capped (r.step * unsigned_abs d) }) else None

abbrev pub value_at : List Word → ℕ → ℤ
value_at buffer at = (get_or buffer at blank).value

-- with so many more subscripts and dimensions, which lie in a buffer
abbrev pub reaches : Reach → List Word → ℕ → ℕ → ℕ → Option ℕ
reaches r buffer subscripts sizes zero = Some r.far
reaches r buffer subscripts sizes (suc n) = and_then (advanced r (value_at buffer subscripts) (value_at buffer sizes)) (λ r1. reaches r1 buffer (suc subscripts) (suc sizes) n)

abbrev pub at_first : Reach
at_first = record { far = 0; step = 1 }

-- how many lie before the one that a subscript names
abbrev pub before : ℤ → ℤ → Option ℕ
before i d = if int_le (pos 1) i && int_le i d then Some (unsigned_abs (i -ℤ pos 1)) else None

-- how far two subscripts reach, with no cap
abbrev pub two_reach : ℤ → ℤ → ℤ → ℤ → Option ℕ
two_reach i j d e = and_then (before i d) (λ a. and_then (before j e) (λ b. Some (a + b * unsigned_abs d)))

-- two numbers that are the same up to the cap
pub data Alike (a b : ℕ) : Type 0 where
  Same : a ≡ b → Alike a b
  Many : 2 ^ 31 ≤ a → 2 ^ 31 ≤ b → Alike a b

-- a word stands for the spot so many places on, or there is none
abbrev pub IsShifted : Try Spot → Option Word → Type 0
IsShifted (Yields q) (Some w) = Shows (At q) w
IsShifted (Traps t) None = t ≡ Subscript
IsShifted _ _ = ⊥

-- ---- the places of an array ----

-- with one more dimension
abbrev pub widened : ℕ → ℤ → Option ℕ
widened far d = if int_le (pos 1) d then Some (capped (far * unsigned_abs d)) else None

-- the product of so many dimensions that lie in a buffer, behind those so far
abbrev pub product : ℕ → List Word → ℕ → ℕ → Option ℕ
product far buffer at zero = Some far
product far buffer at (suc n) = and_then (widened far (value_at buffer at)) (λ next. product next buffer (suc at) n)

-- the number of places, by the same dimensions
abbrev pub exactly : List Word → ℕ → ℕ → Try ℕ
exactly buffer at zero = Yields 1
exactly buffer at (suc n) = times (value_at buffer at) (exactly buffer (suc at) n)

abbrev pub IsProduct : Try ℕ → Option ℕ → ℕ → Type 0
IsProduct (Yields k) (Some far) m = Alike far (m * k)
IsProduct (Traps t) None m = t ≡ Subscript
IsProduct _ _ m = ⊥
