-- Tables whose rows stand behind one another in one list, and what a row has at a key.
use Rattle.std.specs.Prelude.{ℕ, suc, ◌+◌, nat_lt, nat_le, Bool, ◌&&◌, if◌then◌else◌, Option, Some, List, [], ◌∷◌, ◌++◌, length, slice_range, get_or}

abbrev pub has_row : {A : Type 0} → List A → List ℕ → ℕ → Bool
has_row all starts i =
    nat_lt (suc i) (length starts) && (nat_le (get_or starts i 0) (get_or starts (suc i) 0) && nat_le (get_or starts (suc i) 0) (length all))

abbrev pub row_of : {A : Type 0} → List A → List ℕ → ℕ → List A
row_of all starts i = slice_range all (get_or starts i 0) (get_or starts (suc i) 0)

abbrev pub flat : {A : Type 0} → List (List A) → List A
flat [] = []
flat (x ∷ xs) = x ++ flat xs

-- where each row begins, from this place on, and where the last ends
abbrev pub starts_of : {A : Type 0} → ℕ → List (List A) → List ℕ
starts_of n [] = n ∷ []
starts_of n (x ∷ xs) = n ∷ starts_of (n + length x) xs

-- what a row has at a key, or the other where it has nothing
abbrev pub found : {K A : Type 0} → (K → K → Bool) → K → List (K × A) → Option A → Option A
found same k [] other = other
found same k (e ∷ es) other = if same e.0 k then Some e.1 else found same k es other
