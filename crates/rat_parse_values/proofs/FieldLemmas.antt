-- The value of digits.
use Rattle.std.proofs.Common.{◌≡◌, ◌≤◌, ◌<◌, ℕ, ◌*◌, ◌+◌, ◌-◌, List, [], ◌∷◌, arith}
use Rattle.rat_parse_values.specs.Phrases.{decimal, width}

pub decimal_grows : (n : ℕ) (ds : List ℕ) → n ≤ decimal n ds
decimal_grows n [] = omega arith
decimal_grows n (d ∷ ds) = omega (arith, decimal_grows (n * 10 + (d - 48)) ds)

-- digits that come above the greatest have the greatest as their value
pub width_over : (n : ℕ) (ds all : List ℕ) → decimal 0 all ≡ decimal n ds → 65535 < n → width all ≡ 65535
width_over n ds all same above = grind (arith, decimal_grows n ds)
