-- The first record of the bytes at hand, whatever comes behind them.
use Rattle.std.proofs.Common.{◌≡◌, ℕ, zero, suc, ◌<◌, ◌≤◌, Bool, true, false, List, [], ◌∷◌, ◌++◌, length, drop, take, map, sym, ◌∙◌, ap, subst, arith, refl, ◌==◌, nat_lt, if◌then◌else◌, length-append}
use Rattle.std.proofs.lemmas.Bool.Decides.{nat_tests}
use Rattle.std.proofs.lemmas.List.{append-nil}
use Rattle.memchr.specs.Find.{is_byte, Passes, Nowhere}
use Rattle.ports.specs.Records.{got_records, cut_line, Cut, cut, with_front, without_return, last_line, input_records}
use Rattle.ports.proofs.RecordLemmas.{cut_none, record_alone}
use Rattle.record_intake.specs.Intakes.{Content, MayCome, IsRecord, HasLong, IsLong, IsCut}

other : (b c : ℕ) → ¬ ((b == c) ≡ true) → (b == c) ≡ false
other b c ne = grind (arith, nat_tests, ne)

abbrev IsEnd : List ℕ → ℕ → Type 0
IsEnd hand n = Passes (is_byte 10) hand n

abbrev records_in : Bool → Cut → List (List ℕ)
records_in failed c = if failed then map without_return c.lines ++ cut_line c.rest else map without_return c.lines ++ last_line c.rest

records_of : (failed : Bool) (bytes : List ℕ) (c : Cut) → cut bytes ≡ c → got_records failed bytes ≡ records_in failed c
records_of failed bytes c is = ap (λ (all : Cut). records_in failed all) is

-- a byte 10 ends the first line
cut_first : (hand later : List ℕ) (n : ℕ) → n < length hand → Nowhere (Passes (is_byte 10) hand) 0 n → IsEnd hand n → cut (hand ++ later) ≡ record { lines = take n hand ∷ (cut (drop (suc n) hand ++ later)).lines; rest = (cut (drop (suc n) hand ++ later)).rest }
cut_first [] later n lt before is = absurd (omega (arith, lt))
cut_first (b ∷ bs) later zero lt before is = rw is
cut_first (b ∷ bs) later (suc n) lt before is =
    let differs : (b == 10) ≡ false = other b 10 (before 0 (omega arith) (omega arith)) in
    let further = cut_first bs later n (omega (arith, lt)) (λ k low high. before (suc k) (omega arith) (omega (arith, high))) is in
    rw (differs, further)

first_of : (failed : Bool) (hand : List ℕ) (rest : Cut) (line : List ℕ) → records_in failed (record { lines = hand ∷ rest.lines; rest = rest.rest }) ≡ without_return hand ∷ records_in failed rest
first_of true hand rest line = refl
first_of false hand rest line = refl

record_at : (c : Content) (n k m : ℕ) → m ≡ suc n → n < length c.hand → Nowhere (Passes (is_byte 10) c.hand) 0 n → IsEnd c.hand n → take k c.hand ≡ without_return (take n c.hand) → k ≤ n → IsRecord c k m
record_at c n k m next lt before is line le =
    record {
      order = omega arith;
      within = omega arith;
      first = λ failed later may. records_of failed (c.hand ++ later) _ (cut_first c.hand later n lt before is) ∙ first_of failed (take n c.hand) (cut (drop (suc n) c.hand ++ later)) [] ∙ ap (λ (l : List ℕ). l ∷ got_records failed (drop (suc n) c.hand ++ later)) (sym line)
          ∙ ap (λ (j : ℕ). take k c.hand ∷ got_records failed (drop j c.hand ++ later)) (sym next);
    }

-- at the end of the input all that is left is a record
record_last : (c : Content) → c.ended ≡ true → 0 < length c.hand → Nowhere (Passes (is_byte 10) c.hand) 0 (length c.hand) → IsRecord c (length c.hand) (length c.hand)
record_last c ended some none =
    record { order = omega arith; within = omega arith; first = λ failed later may. by failed later (subst (λ b. MayCome b failed later) ended may) }
  where
    by : (failed : Bool) (later : List ℕ) → (failed ≡ false) × (later ≡ []) → got_records failed (c.hand ++ later) ≡ take (length c.hand) c.hand ∷ got_records failed (drop (length c.hand) c.hand ++ later)
    by failed later at_end =
        ap (λ (b : Bool). got_records b (c.hand ++ later)) at_end.0
        ∙ ap input_records (ap (λ (l : List ℕ). c.hand ++ l) at_end.1 ∙ append-nil c.hand)
        ∙ record_alone c.hand some none
        ∙ ap (λ (l : List ℕ). take (length c.hand) c.hand ∷ input_records l) (sym (ap (λ (l : List ℕ). drop (length c.hand) c.hand ++ l) at_end.1 ∙ append-nil (drop (length c.hand) c.hand)))
        ∙ sym (ap (λ (b : Bool). take (length c.hand) c.hand ∷ got_records b (drop (length c.hand) c.hand ++ later)) at_end.0)

-- ---- a line that is too long ----

-- bytes without a byte 10 before lines
abbrev joined : List ℕ → List (List ℕ) → List ℕ → Cut
joined hand [] rest = record { lines = []; rest = hand ++ rest }
joined hand (l ∷ ls) rest = record { lines = (hand ++ l) ∷ ls; rest = rest }

joined_none : (lines : List (List ℕ)) (rest : List ℕ) → record { lines = lines; rest = rest } ≡ joined [] lines rest
joined_none [] rest = refl
joined_none (l ∷ ls) rest = refl

joined_more : (b : ℕ) (hand : List ℕ) (lines : List (List ℕ)) (rest : List ℕ) → with_front b (joined hand lines rest).lines (joined hand lines rest).rest ≡ joined (b ∷ hand) lines rest
joined_more b hand [] rest = refl
joined_more b hand (l ∷ ls) rest = refl

cut_behind : (hand later : List ℕ) → Nowhere (Passes (is_byte 10) hand) 0 (length hand) → cut (hand ++ later) ≡ joined hand (cut later).lines (cut later).rest
cut_behind [] later none = joined_none (cut later).lines (cut later).rest
cut_behind (b ∷ bs) later none =
    let differs : (b == 10) ≡ false = other b 10 (none 0 (omega arith) (omega arith)) in
    let further = cut_behind bs later (λ k low high. none (suc k) (omega arith) (omega (arith, high))) in
    rw differs (ap (λ (c : Cut). with_front b c.lines c.rest) further ∙ joined_more b bs (cut later).lines (cut later).rest)

return_by : (b : ℕ) (is : Bool) → 1 ≤ suc (length (if is then [] else b ∷ []))
return_by b true = omega arith
return_by b false = omega arith

one_less : (line : List ℕ) → length line ≤ suc (length (without_return line))
one_less [] = omega arith
one_less (b ∷ []) = return_by b (b == 13)
one_less (b ∷ c ∷ bs) = let ih = one_less (c ∷ bs) in omega arith

long_last : (line : List ℕ) → 65535 < length line → HasLong (last_line line)
long_last [] long = absurd (omega (arith, long))
long_last (b ∷ bs) long = record { first = b ∷ bs; others = []; is = refl; long = long }

long_by : (failed : Bool) (hand : List ℕ) (lines : List (List ℕ)) (rest : List ℕ) → length hand ≡ 65537 → HasLong (records_in failed (joined hand lines rest))
long_by true hand [] rest long =
    let all = length-append hand rest in
    let some : nat_lt 65536 (length (hand ++ rest)) ≡ true = grind (arith, nat_tests, long, all) in
    record { first = hand ++ rest; others = []; is = rw some; long = omega arith }
long_by false hand [] rest long = let all = length-append hand rest in long_last (hand ++ rest) (omega arith)
long_by true hand (l ∷ ls) rest long = let all = length-append hand l in let less = one_less (hand ++ l) in record { first = without_return (hand ++ l); others = map without_return ls ++ cut_line rest; is = refl; long = omega arith }
long_by false hand (l ∷ ls) rest long = let all = length-append hand l in let less = one_less (hand ++ l) in record { first = without_return (hand ++ l); others = map without_return ls ++ last_line rest; is = refl; long = omega arith }

record_long : (c : Content) → length c.hand ≡ 65537 → Nowhere (Passes (is_byte 10) c.hand) 0 (length c.hand) → IsLong c
record_long c long none =
    record { most = omega arith; first = λ failed later. subst HasLong (sym (records_of failed (c.hand ++ later) _ (cut_behind c.hand later none))) (long_by failed c.hand (cut later).lines (cut later).rest long) }

-- ---- no record yet ----

none_yet : (c : Content) → c.ended ≡ false → length c.hand ≤ 65536 → Nowhere (Passes (is_byte 10) c.hand) 0 (length c.hand) → IsCut c
none_yet c going short none =
    let few : nat_lt 65536 (length c.hand) ≡ false = grind (arith, nat_tests, short) in
    record { going = going; none = records_of true c.hand _ (cut_none c.hand none) ∙ rw few; most = short }

-- ---- the bytes at hand as they were read off ----

module _ (c : Content) (hand : List ℕ) (same : hand ≡ c.hand) where
  pub at_record : (n k m : ℕ) → m ≡ suc n → n < length hand → Nowhere (Passes (is_byte 10) hand) 0 n → IsEnd hand n → take k hand ≡ without_return (take n hand) → k ≤ n → IsRecord c k m
  at_record = subst (λ h. (n k m : ℕ) → m ≡ suc n → n < length h → Nowhere (Passes (is_byte 10) h) 0 n → IsEnd h n → take k h ≡ without_return (take n h) → k ≤ n → IsRecord c k m) (sym same) (record_at c)

  pub at_last : c.ended ≡ true → 0 < length hand → Nowhere (Passes (is_byte 10) hand) 0 (length hand) → IsRecord c (length hand) (length hand)
  at_last = subst (λ h. c.ended ≡ true → 0 < length h → Nowhere (Passes (is_byte 10) h) 0 (length h) → IsRecord c (length h) (length h)) (sym same) (record_last c)

  pub at_long : length hand ≡ 65537 → Nowhere (Passes (is_byte 10) hand) 0 (length hand) → IsLong c
  at_long = subst (λ h. length h ≡ 65537 → Nowhere (Passes (is_byte 10) h) 0 (length h) → IsLong c) (sym same) (record_long c)

  pub at_none : c.ended ≡ false → length hand ≤ 65536 → Nowhere (Passes (is_byte 10) hand) 0 (length hand) → IsCut c
  at_none = subst (λ h. c.ended ≡ false → length h ≤ 65536 → Nowhere (Passes (is_byte 10) h) 0 (length h) → IsCut c) (sym same) (none_yet c)
