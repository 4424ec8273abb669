-- Where units of some sizes stand, one behind the other.
use Rattle.std.specs.Prelude.{ℕ, ◌+◌, List, [], ◌∷◌}

-- where each begins, and where the last ends, if the first begins here
abbrev pub entries_from : ℕ → List ℕ → List ℕ
entries_from at [] = at ∷ []
entries_from at (size ∷ sizes) = at ∷ entries_from (at + size) sizes
