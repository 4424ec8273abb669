-- Numbers that stand several times in a row, each once.
use Rattle.std.specs.Prelude.{ℕ, nat_eq, Bool, false, List, [], ◌∷◌, Option, Some, None, if◌then◌else◌}

abbrev pub is_that : Option ℕ → ℕ → Bool
is_that None x = false
is_that (Some y) x = nat_eq y x

-- behind a number
abbrev pub once_behind : Option ℕ → List ℕ → List ℕ
once_behind o [] = []
once_behind o (x ∷ xs) = if is_that o x then once_behind (Some x) xs else x ∷ once_behind (Some x) xs

abbrev pub each_once : List ℕ → List ℕ
each_once xs = once_behind None xs
