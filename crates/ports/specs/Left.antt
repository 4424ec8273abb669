-- What a source in memory has left.
use Rattle.std.specs.Prelude.{◌≡◌, ℕ, ◌<◌, ◌≤◌, List, length, drop, get_or, Vec, vec_len, Bool, nat_lt, IsTrue}
use Rattle.std.specs.List.{list_all, flat_map}
use Rattle.std.specs.declared.alloc.Global.{Global}

-- the pieces, one behind the other
abbrev pub joined : List (Vec ℕ Global) → List ℕ
joined pieces = flat_map (λ v. v.items) pieces

-- no piece is empty
abbrev pub all_full : List (Vec ℕ Global) → Bool
all_full pieces = list_all (λ v. nat_lt 0 (length v.items)) pieces

-- the bytes from this offset of this piece on
abbrev pub left_in : List (Vec ℕ Global) → ℕ → ℕ → List ℕ
left_in pieces at offset = drop offset (joined (drop at pieces))

-- no piece is empty, and the offset is inside the piece that is read
pub record IsWithin (pieces : Vec (Vec ℕ Global) Global) (at offset : ℕ) : Type 0 where
  pub full : IsTrue (all_full pieces.items)
  pub within : at ≤ vec_len pieces
  pub inside : (p : Vec ℕ Global) → at < vec_len pieces → p ≡ get_or pieces.items at p → offset < length p.items
  pub at_end : at ≡ vec_len pieces → offset ≡ 0
