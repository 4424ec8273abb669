-- How far the rows of a class reach.
use Rattle.std.specs.Prelude.{◌≡◌, ◌<◌, ◌⊎◌, ℕ, ℤ, pos, ◌+ℤ◌, ◌≤ℤ◌, List, slice_index, slice_index_or, Option, None, Some}
use Rattle.offset_classes.specs.declared.link.Seat.{Seat}
use Rattle.offset_classes.specs.Links.{class_in, offset_in}

-- one of the first n rows stands in the class c, and has places
abbrev pub IsIn : List Seat → List ℕ → ℕ → ℕ → ℕ → Type 0
IsIn seats sizes n c x = (x < n) × (class_in seats x ≡ c) × (0 < slice_index sizes x)

-- the offset behind the last place of a row
abbrev pub end_of : List Seat → List ℕ → ℕ → ℤ
end_of seats sizes x = offset_in seats x +ℤ pos (slice_index sizes x)

-- none of these rows has places; or the last place of them stands before this offset
abbrev pub IsEnd : List Seat → List ℕ → ℕ → ℕ → Option ℤ → Type 0
IsEnd seats sizes n c None = (x : ℕ) → ¬ IsIn seats sizes n c x
IsEnd seats sizes n c (Some e) = ((x : ℕ) → IsIn seats sizes n c x → end_of seats sizes x ≤ℤ e) × ((x : ℕ) × IsIn seats sizes n c x × (end_of seats sizes x ≡ e))

-- the ends of all classes, by the first n rows
abbrev pub AreEnds : List Seat → List ℕ → ℕ → List (Option ℤ) → Type 0
AreEnds seats sizes n ends = (c : ℕ) → IsEnd seats sizes n c (slice_index_or ends c None)

-- the further one of an end that there may be and another one
abbrev pub IsFurther : Option ℤ → ℤ → Option ℤ → Type 0
IsFurther None e new = new ≡ Some e
IsFurther (Some f) e new = ((f ≤ℤ e) × (new ≡ Some e)) ⊎ ((e ≤ℤ f) × (new ≡ Some f))
