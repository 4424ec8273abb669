-- The first record of an input.
use Rattle.std.proofs.Common.{◌≡◌, ◌≢◌, ℕ, zero, suc, ◌+◌, ◌-◌, ◌<◌, ◌≤◌, Bool, true, false, List, [], ◌∷◌, ◌++◌, length, drop, take, map, sym, ◌∙◌, ap, arith, refl, ◌==◌, nat_lt, Option, None, Some, length-drop, add-one}
use Rattle.std.proofs.lemmas.Bool.Decides.{nat_tests}
use Rattle.std.proofs.lemmas.List.{take_all, drop_all}
use Rattle.memchr.specs.Find.{is_byte, Passes, Nowhere, IsLastByte}
use Rattle.ports.specs.Records.{got_records, cut_line, Cut, cut, without_return, last_line, input_records}

other : (b c : ℕ) → ¬ ((b == c) ≡ true) → (b == c) ≡ false
other b c ne = grind (arith, nat_tests, ne)

-- a byte 10 ends the first line
pub cut_at : (bytes : List ℕ) (n : ℕ) → n < length bytes → Nowhere (Passes (is_byte 10) bytes) 0 n → Passes (is_byte 10) bytes n → cut bytes ≡ record { lines = take n bytes ∷ (cut (drop (suc n) bytes)).lines; rest = (cut (drop (suc n) bytes)).rest }
cut_at [] n lt before is = absurd (omega (arith, lt))
cut_at (b ∷ bs) zero lt before is = rw is
cut_at (b ∷ bs) (suc n) lt before is =
    let differs : (b == 10) ≡ false = other b 10 (before 0 (omega arith) (omega arith)) in
    let further = cut_at bs n (omega (arith, lt)) (λ k low high. before (suc k) (omega arith) (omega (arith, high))) is in
    rw (differs, further)

-- an input without a byte 10 is one line without an end
pub cut_none : (bytes : List ℕ) → Nowhere (Passes (is_byte 10) bytes) 0 (length bytes) → cut bytes ≡ record { lines = []; rest = bytes }
cut_none [] before = refl
cut_none (b ∷ bs) before =
    let differs : (b == 10) ≡ false = other b 10 (before 0 (omega arith) (omega arith)) in
    let further = cut_none bs (λ k low high. before (suc k) (omega arith) (omega (arith, high))) in
    rw (differs, further)

pub record_at : (bytes : List ℕ) (n k : ℕ) → n < length bytes → Nowhere (Passes (is_byte 10) bytes) 0 n → Passes (is_byte 10) bytes n → take k bytes ≡ without_return (take n bytes) → input_records bytes ≡ take k bytes ∷ input_records (drop (suc n) bytes)
record_at bytes n k lt before is line =
    ap (λ (c : Cut). map without_return c.lines ++ last_line c.rest) (cut_at bytes n lt before is)
    ∙ ap (λ (l : List ℕ). l ∷ input_records (drop (suc n) bytes)) (sym line)

pub record_alone : (bytes : List ℕ) → 0 < length bytes → Nowhere (Passes (is_byte 10) bytes) 0 (length bytes) → input_records bytes ≡ take (length bytes) bytes ∷ input_records (drop (length bytes) bytes)
record_alone [] some before = absurd (omega (arith, some))
record_alone (b ∷ bs) some before =
    let whole : take (length (b ∷ bs)) (b ∷ bs) ≡ b ∷ bs = take_all (length (b ∷ bs)) (b ∷ bs) (omega arith) in
    let nothing : drop (length (b ∷ bs)) (b ∷ bs) ≡ [] = drop_all (length (b ∷ bs)) (b ∷ bs) (omega arith) in
    ap (λ (c : Cut). map without_return c.lines ++ last_line c.rest) (cut_none (b ∷ bs) before)
    ∙ ap (λ (l : List ℕ). l ∷ []) (sym whole)
    ∙ ap (λ (l : List ℕ). take (length (b ∷ bs)) (b ∷ bs) ∷ input_records l) (sym nothing)

-- a byte 13 at the end
pub return_at_end : (front : List ℕ) → without_return (front ++ 13 ∷ []) ≡ front
return_at_end [] = refl
return_at_end (b ∷ []) = refl
return_at_end (b ∷ c ∷ bs) = ap (λ (l : List ℕ). b ∷ l) (return_at_end (c ∷ bs))

-- no byte 13 at the end
pub no_return_at_end : (line : List ℕ) → ((front : List ℕ) → line ≢ front ++ 13 ∷ []) → without_return line ≡ line
no_return_at_end [] other_end = refl
no_return_at_end (b ∷ []) other_end = let differs : (b == 13) ≡ false = other b 13 (λ is. other_end [] (let same : b ≡ 13 = grind (arith, nat_tests, is) in rw same)) in rw differs
no_return_at_end (b ∷ c ∷ bs) other_end = ap (λ (l : List ℕ). b ∷ l) (no_return_at_end (c ∷ bs) (λ front is. other_end (b ∷ front) (ap (λ (l : List ℕ). b ∷ l) is)))

-- The bytes up to the last byte 10 are full lines, and all behind it is the rest.
pub record EndsAt (bytes : List ℕ) (n : ℕ) : Type 0 where
  pub line : List ℕ
  pub lines : List (List ℕ)
  pub front : cut (take n bytes) ≡ record { lines = line ∷ lines; rest = [] }
  pub whole : cut bytes ≡ record { lines = line ∷ lines; rest = drop n bytes }

pub ends_at : (bytes : List ℕ) (k : ℕ) → k < length bytes → Nowhere (Passes (is_byte 10) bytes) (k + 1) (length bytes) → Passes (is_byte 10) bytes k → EndsAt bytes (suc k)
ends_at [] k lt behind is = absurd (omega (arith, lt))
ends_at (b ∷ bs) zero lt behind is =
    let none : cut bs ≡ record { lines = []; rest = bs } = cut_none bs (λ k low high. behind (suc k) (omega arith) (omega (arith, high))) in
    record { line = []; lines = []; front = rw is; whole = rw (is, none) }
ends_at (b ∷ bs) (suc k) lt behind is =
    let further = ends_at bs k (omega (arith, lt)) (λ j low high. behind (suc j) (omega (arith, low)) (omega (arith, high))) is in
    with_byte (b == 10) refl further
  where
    with_byte : (is_end : Bool) → (b == 10) ≡ is_end → EndsAt bs (suc k) → EndsAt (b ∷ bs) (suc (suc k))
    with_byte true here further = record { line = []; lines = further.line ∷ further.lines; front = rw (here, further.front); whole = rw (here, further.whole) }
    with_byte false here further = record { line = b ∷ further.line; lines = further.lines; front = rw (here, further.front); whole = rw (here, further.whole) }

-- where the full lines end
abbrev pub end_of : Option ℕ → ℕ
end_of None = 0
end_of (Some last) = last + 1

got_of_cut : (bytes : List ℕ) (c : Cut) → cut bytes ≡ c → got_records true bytes ≡ map without_return c.lines ++ cut_line c.rest
got_of_cut bytes c is = ap (λ (all : Cut). map without_return all.lines ++ cut_line all.rest) is

input_of_cut : (bytes : List ℕ) (c : Cut) → cut bytes ≡ c → input_records bytes ≡ map without_return c.lines ++ last_line c.rest
input_of_cut bytes c is = ap (λ (all : Cut). map without_return all.lines ++ last_line all.rest) is

short_line : (rest : List ℕ) → length rest ≤ 65536 → cut_line rest ≡ []
short_line rest short = let none : nat_lt 65536 (length rest) ≡ false = grind (arith, nat_tests, short) in rw none

long_line : (rest : List ℕ) → 65536 < length rest → cut_line rest ≡ last_line rest
long_line [] long = absurd (omega (arith, long))
long_line (b ∷ bs) long = let some : nat_lt 65536 (length (b ∷ bs)) ≡ true = grind (arith, nat_tests, long) in rw some

module _ (bytes : List ℕ) where
  pub cut_short : (last : Option ℕ) → IsLastByte (is_byte 10) bytes last → length bytes - end_of last ≤ 65536 → got_records true bytes ≡ input_records (take (end_of last) bytes)
  cut_short None none short = got_of_cut bytes _ (cut_none bytes none) ∙ short_line bytes (omega (arith, short))
  cut_short (Some k) found short =
      let ends = ends_at bytes k found.0.high found.0.after found.1 in
      let few : length (drop (suc k) bytes) ≤ 65536 = omega (arith, length-drop (suc k) bytes, short) in
      got_of_cut bytes _ ends.whole ∙ ap (λ (l : List (List ℕ)). map without_return (ends.line ∷ ends.lines) ++ l) (short_line (drop (suc k) bytes) few) ∙ sym (rw add-one (input_of_cut (take (suc k) bytes) _ ends.front))

  pub cut_long : (last : Option ℕ) → IsLastByte (is_byte 10) bytes last → 65536 < length bytes - end_of last → got_records true bytes ≡ input_records bytes
  cut_long None none long = got_of_cut bytes _ (cut_none bytes none) ∙ long_line bytes (omega (arith, long)) ∙ sym (input_of_cut bytes _ (cut_none bytes none))
  cut_long (Some k) found long =
      let ends = ends_at bytes k found.0.high found.0.after found.1 in
      let many : 65536 < length (drop (suc k) bytes) = let ended : end_of (Some k) ≡ suc k = add-one k in omega (arith, length-drop (suc k) bytes, long) in
      got_of_cut bytes _ ends.whole ∙ ap (λ (l : List (List ℕ)). map without_return (ends.line ∷ ends.lines) ++ l) (long_line (drop (suc k) bytes) many) ∙ sym (input_of_cut bytes _ ends.whole)
