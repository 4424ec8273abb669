-- Numbers in use: some are taken, and others are made, each the next one that is not taken.
use Rattle.std.specs.Prelude.{ℕ, zero, suc, ◌+◌, Bool, List, [], ◌∷◌, ◌++◌, length, nat_eq, nat_le, if◌then◌else◌}
use Rattle.std.specs.List.{list_any}

pub record Numbering : Type 0 where
  pub first : ℕ
  pub taken : List ℕ
  pub made : List ℕ

-- nothing is taken, and nothing made
abbrev pub starting : ℕ → Numbering
starting n = record { first = n; taken = []; made = [] }

abbrev pub is_in : List ℕ → ℕ → Bool
is_in ns n = list_any (λ m. nat_eq m n) ns

-- the first that is not taken, among the next few
abbrev pub free_from : ℕ → List ℕ → ℕ → ℕ
free_from zero taken n = n
free_from (suc f) taken n = if is_in taken n then free_from f taken (n + 1) else n

-- the least number from n on that is not taken; more than all taken ones together need not be passed
abbrev pub free_number : List ℕ → ℕ → ℕ
free_number taken n = free_from (length taken) taken n

-- how many taken numbers are n or above
abbrev pub above : ℕ → List ℕ → ℕ
above n [] = 0
above n (m ∷ ms) = (if nat_le n m then 1 else 0) + above n ms

-- the number behind the last that was made
abbrev pub behind : ℕ → List ℕ → ℕ
behind n [] = n
behind n (m ∷ ms) = behind (m + 1) ms

abbrev pub next_number : Numbering → ℕ
next_number s = free_number s.taken (behind s.first s.made)

-- a number is put into a list of different ones
abbrev pub with_number : ℕ → List ℕ → List ℕ
with_number n ns = if is_in ns n then ns else (ns ++ n ∷ [])

-- a number of the source is taken
abbrev pub taking : Numbering → ℕ → Numbering
taking s n = record { first = s.first; taken = with_number n s.taken; made = s.made }

-- the next number is made
abbrev pub making : Numbering → Numbering
making s = record { first = s.first; taken = s.taken; made = s.made ++ next_number s ∷ [] }

-- from where the i-th is looked for, and the i-th itself, where none is taken in between
abbrev pub start_of : ℕ → List ℕ → ℕ → ℕ
start_of first taken zero = first
start_of first taken (suc i) = free_number taken (start_of first taken i) + 1

abbrev pub made_number : ℕ → List ℕ → ℕ → ℕ
made_number first taken i = free_number taken (start_of first taken i)

-- the first i
abbrev pub made_first : ℕ → List ℕ → ℕ → List ℕ
made_first first taken zero = []
made_first first taken (suc i) = made_first first taken i ++ made_number first taken i ∷ []
