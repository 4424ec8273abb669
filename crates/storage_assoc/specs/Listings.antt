-- Names with numbers, and how many places each has.
use Rattle.std.specs.Prelude.{◌≡◌, ◌<◌, ◌+◌, ℕ, nat_lt, Bool, true, false, List, [], length, map, slice_index_or, Option, None, Some, if◌then◌else◌}
use Rattle.std.specs.HashMap.{get_by}
use Rattle.std.specs.Str.{bytes_eq}
use Rattle.f66_tree.specs.Syntax.{Text}
use Rattle.storage_assoc.specs.declared.listing.Listing.{Listing}

abbrev pub name_at : List Text → ℕ → Text
name_at names k = slice_index_or names k []

-- the names have numbers from `first` on, in their order, and no other names have any
pub record AreNumberedFrom (first : ℕ) (names : List Text) (find : Text → Option ℕ) : Type 0 where
  pub has : (k : ℕ) → k < length names → find (name_at names k) ≡ Some (first + k)
  pub only : (x : Text) (i : ℕ) → find x ≡ Some i → (k : ℕ) × (k < length names) × (i ≡ first + k) × (name_at names k ≡ x)

abbrev pub is_found : Option ℕ → Bool
is_found None = false
is_found (Some i) = true

abbrev pub number_of_name : Listing → Text → Option ℕ
number_of_name l q = get_by (λ k. bytes_eq q k.now) l.numbers

abbrev pub names_in : Listing → List Text
names_in l = map (λ n. n.now) l.names.items

abbrev pub IsListing : ℕ → Listing → Type 0
IsListing first l = AreNumberedFrom first (names_in l) (number_of_name l)

abbrev pub has_name : Listing → Text → Bool
has_name l q = is_found (number_of_name l q)

-- numbers of places count up to 65,536
abbrev pub capped : ℕ → ℕ
capped n = if nat_lt n 65536 then n else 65536
