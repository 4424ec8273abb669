-- The units of a program but for its main.
use Rattle.std.specs.Prelude.{ℕ, zero, suc, nat_eq, List, [], ◌∷◌, if◌then◌else◌}

-- so many numbers from one on, but for the main's
abbrev pub others_from : ℕ → ℕ → ℕ → List ℕ
others_from main k zero = []
others_from main k (suc n) = if nat_eq k main then others_from main (suc k) n else k ∷ others_from main (suc k) n

abbrev pub others_of : ℕ → ℕ → List ℕ
others_of main n = others_from main 0 n
