-- The first record ends at the first byte 10, or is all that there is.
use Rattle.std.proofs.Common.{◌≡◌, ℕ, suc, ◌<◌, List, [], ◌∷◌, ◌++◌, ◌-◌, length, length-drop, drop, take, map, sym, ◌∙◌, ap, arith}
use Rattle.std.proofs.lemmas.List.{take_all, drop_all}
use Rattle.memchr.specs.Find.{is_byte, Passes, Nowhere}
use Rattle.ports.specs.Records.{Cut, without_return, last_line, input_records}
use Rattle.ports.proofs.RecordLemmas.{cut_at, cut_none}

-- the bytes from a place on
rest_from : (bytes : List ℕ) (n : ℕ) → take (length bytes - n) (drop n bytes) ≡ drop n bytes
rest_from bytes n = take_all (length bytes - n) (drop n bytes) (omega (arith, length-drop n bytes))

pub first_line : (bytes : List ℕ) (n : ℕ) → n < length bytes → Nowhere (Passes (is_byte 10) bytes) 0 n → Passes (is_byte 10) bytes n
    → input_records bytes ≡ without_return (take n bytes) ∷ input_records (take (length bytes - suc n) (drop (suc n) bytes))
first_line bytes n lt before is =
    ap (λ (c : Cut). map without_return c.lines ++ last_line c.rest) (cut_at bytes n lt before is)
    ∙ ap (λ (l : List ℕ). without_return (take n bytes) ∷ input_records l) (sym (rest_from bytes (suc n)))

pub only_line : (bytes : List ℕ) → 0 < length bytes → Nowhere (Passes (is_byte 10) bytes) 0 (length bytes)
    → input_records bytes ≡ bytes ∷ input_records (take (length bytes - length bytes) (drop (length bytes) bytes))
only_line [] some before = absurd (omega (arith, some))
only_line (b ∷ bs) some before =
    let nothing : drop (length (b ∷ bs)) (b ∷ bs) ≡ [] = drop_all (length (b ∷ bs)) (b ∷ bs) (omega arith) in
    ap (λ (c : Cut). map without_return c.lines ++ last_line c.rest) (cut_none (b ∷ bs) before)
    ∙ ap (λ (l : List ℕ). (b ∷ bs) ∷ input_records l) (sym (rest_from (b ∷ bs) (length (b ∷ bs)) ∙ nothing))
