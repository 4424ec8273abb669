-- Names in use: some are kept from the source, and others are made, a letter with five digits each.
use Rattle.std.specs.Prelude.{ℕ, ◌+◌, ◌-◌, ◌*◌, ◌/◌, ◌%◌, Bool, true, false, not, ◌&&◌, ◌||◌, nat_eq, nat_le, List, [], ◌∷◌, ◌++◌, length, slice_index, Option, Some, None, codes, if◌then◌else◌}
use Rattle.std.specs.Str.{bytes_eq}
use Rattle.std.specs.List.{list_any}
use Rattle.name_alloc.specs.Numbers.{Numbering, is_in, next_number, starting, taking, making}

pub record Used : Type 0 where
  pub letter : ℕ
  pub kept : List (List ℕ)
  pub numbers : Numbering
  pub labels : Numbering

abbrev pub digit_at : ℕ → ℕ → ℕ
digit_at n unit = 48 + n / unit % 10

-- the made name with a number
abbrev pub made_name : ℕ → ℕ → List ℕ
made_name letter n = letter ∷ digit_at n 10000 ∷ digit_at n 1000 ∷ digit_at n 100 ∷ digit_at n 10 ∷ digit_at n 1 ∷ []

abbrev pub digit_of : ℕ → Option ℕ
digit_of c = if nat_le 48 c && nat_le c 57 then Some (c - 48) else None

abbrev pub then_digit : Option ℕ → Option ℕ → Option ℕ
then_digit (Some n) (Some d) = Some (n * 10 + d)
then_digit _ _ = None

abbrev pub number_in : List ℕ → Option ℕ
number_in x =
    then_digit (then_digit (then_digit (then_digit (digit_of (slice_index x 1)) (digit_of (slice_index x 2))) (digit_of (slice_index x 3))) (digit_of (slice_index x 4))) (digit_of (slice_index x 5))

-- the number of a name that is a letter with five digits
abbrev pub number_of : ℕ → List ℕ → Option ℕ
number_of letter x = if nat_eq (length x) 6 && nat_eq (slice_index x 0) letter then number_in x else None

abbrev pub holds_number : List ℕ → Option ℕ → Bool
holds_number ns None = false
holds_number ns (Some n) = is_in ns n

-- whether a name was kept or made
abbrev pub is_used : Used → List ℕ → Bool
is_used s x = list_any (bytes_eq x) s.kept || holds_number s.numbers.made (number_of s.letter x)

-- the intrinsic functions of the profile
abbrev pub intrinsic_names : List (List ℕ)
intrinsic_names = codes "IABS" ∷ codes "MOD" ∷ codes "ISIGN" ∷ codes "IDIM" ∷ codes "MAX0" ∷ codes "MIN0" ∷ []

-- whether a name of the source can be kept
abbrev pub is_free : Used → List ℕ → Bool
is_free s x = nat_le (length x) 6 && (not (list_any (bytes_eq x) intrinsic_names) && not (is_used s x))

abbrev pub next_name : Used → List ℕ
next_name s = made_name s.letter (next_number s.numbers)

abbrev pub taking_if : Numbering → Option ℕ → Numbering
taking_if s None = s
taking_if s (Some n) = taking s n

-- a name is kept; the next one is made
abbrev pub keeping : Used → List ℕ → Used
keeping s x = record { letter = s.letter; kept = s.kept ++ x ∷ []; numbers = taking_if s.numbers (number_of s.letter x); labels = s.labels }

abbrev pub naming : Used → Used
naming s = record { letter = s.letter; kept = s.kept; numbers = making s.numbers; labels = s.labels }

abbrev pub labelling : Used → Numbering → Used
labelling s labels = record { letter = s.letter; kept = s.kept; numbers = s.numbers; labels = labels }

-- nothing is in use, and made names begin with Z
abbrev pub unused : Used
unused = record { letter = 90; kept = []; numbers = starting 1; labels = starting 23000 }

-- all these names are kept, in their order
abbrev pub keeping_all : List (List ℕ) → Used → Used
keeping_all [] s = s
keeping_all (x ∷ xs) s = keeping_all xs (keeping s x)

-- each kept name that could be made has its number taken
abbrev pub covered : List ℕ → Option ℕ → Bool
covered taken None = true
covered taken (Some n) = is_in taken n

abbrev pub covers : ℕ → List ℕ → List (List ℕ) → Bool
covers letter taken [] = true
covers letter taken (x ∷ xs) = covered taken (number_of letter x) && covers letter taken xs
