-- Records as the bytes of a stream.
use Rattle.std.specs.Prelude.{ℕ, Bool, List, [], ◌∷◌, ◌++◌, length, map, nat_lt, ◌==◌, if◌then◌else◌}
use Rattle.std.specs.List.{flat_map}

-- output records are put one behind the other, each with a byte 10 at its end
abbrev pub output_bytes : List (List ℕ) → List ℕ
output_bytes records = flat_map (λ record_bytes. record_bytes ++ 10 ∷ []) records

-- the lines of an input without their bytes 10, and the bytes behind the last byte 10
pub record Cut : Type 0 where
  pub lines : List (List ℕ)
  pub rest : List ℕ

-- a byte that is no byte 10 belongs to the line that begins behind it
abbrev pub with_front : ℕ → List (List ℕ) → List ℕ → Cut
with_front b [] rest = record { lines = []; rest = b ∷ rest }
with_front b (line ∷ lines) rest = record { lines = (b ∷ line) ∷ lines; rest = rest }

abbrev pub cut : List ℕ → Cut
cut [] = record { lines = []; rest = [] }
cut (b ∷ bs) = if b == 10 then record { lines = [] ∷ (cut bs).lines; rest = (cut bs).rest } else with_front b (cut bs).lines (cut bs).rest

-- a line without a byte 13 at its end
abbrev pub without_return : List ℕ → List ℕ
without_return [] = []
without_return (b ∷ []) = if b == 13 then [] else b ∷ []
without_return (b ∷ c ∷ bs) = b ∷ without_return (c ∷ bs)

-- a last line without a byte 10 is a record where it is not empty
abbrev pub last_line : List ℕ → List (List ℕ)
last_line [] = []
last_line (b ∷ bs) = (b ∷ bs) ∷ []

-- of a line whose end a failed read kept back, only that it is too long can be known
abbrev pub cut_line : List ℕ → List (List ℕ)
cut_line rest = if nat_lt 65536 (length rest) then rest ∷ [] else []

-- the records of an input
abbrev pub input_records : List ℕ → List (List ℕ)
input_records bytes = map without_return (cut bytes).lines ++ last_line (cut bytes).rest

-- the records of the bytes that were got, where the last read has failed, and else
abbrev pub got_records : Bool → List ℕ → List (List ℕ)
got_records failed bytes = if failed then map without_return (cut bytes).lines ++ cut_line (cut bytes).rest else input_records bytes
