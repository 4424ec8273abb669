-- A made name is used by nothing else: its number can be read off it, the numbers of kept names are taken, and a number
-- that is made is not taken and was not made before.
use Rattle.std.proofs.Common.{◌≡◌, ℕ, ◌+◌, ◌-◌, ◌*◌, ◌/◌, ◌%◌, ◌<◌, ◌≤◌, Bool, true, false, true≢false, List, [], ◌∷◌, ◌++◌, length, Option, Some, None, refl, sym, ap, ◌∙◌, subst, arith, length-append, if◌then◌else◌}
use Rattle.std.specs.Prelude.{◌&&◌, ◌||◌, not, nat_eq, nat_le}
use Rattle.std.specs.Str.{bytes_eq}
use Rattle.std.specs.List.{list_any}
use Rattle.std.proofs.lemmas.Bool.{eq-eqb, le-leb}
use Rattle.std.proofs.lemmas.Slice.Eq.{bytes_eq-Decides}
use Rattle.name_alloc.specs.Numbers.{Numbering, is_in, taking}
use Rattle.name_alloc.specs.MadeNames.{Used, digit_at, made_name, digit_of, then_digit, number_in, number_of, holds_number, is_used, is_free, intrinsic_names, covered, covers, taking_if}

digit_is : (d : ℕ) → d ≤ 9 → digit_of (48 + d) ≡ Some d
digit_is d le =
    let same : 48 + d - 48 ≡ d = omega arith in
    ap (λ b. if b && nat_le (48 + d) 57 then Some (48 + d - 48) else None) (le-leb 48 (48 + d) (omega arith))
    ∙ ap (λ b. if b then Some (48 + d - 48) else None) (le-leb (48 + d) 57 (omega arith)) ∙ ap (λ v. Some v) same

then_digits : (o p : Option ℕ) (m d : ℕ) → o ≡ Some m → p ≡ Some d → then_digit o p ≡ Some (m * 10 + d)
then_digits o p m d e q = ap (λ v. then_digit v p) e ∙ ap (then_digit (Some m)) q

is_number : (letter n : ℕ) → n < 100000 → number_of letter (made_name letter n) ≡ Some n
is_number letter n lt =
    let a : digit_of (digit_at n 10000) ≡ Some (n / 10000 % 10) = digit_is (n / 10000 % 10) (omega arith) in
    let b : digit_of (digit_at n 1000) ≡ Some (n / 1000 % 10) = digit_is (n / 1000 % 10) (omega arith) in
    let c : digit_of (digit_at n 100) ≡ Some (n / 100 % 10) = digit_is (n / 100 % 10) (omega arith) in
    let d : digit_of (digit_at n 10) ≡ Some (n / 10 % 10) = digit_is (n / 10 % 10) (omega arith) in
    let e : digit_of (digit_at n 1) ≡ Some (n / 1 % 10) = digit_is (n / 1 % 10) (omega arith) in
    let all = then_digits _ _ _ _ (then_digits _ _ _ _ (then_digits _ _ _ _ (then_digits _ _ _ _ a b) c) d) e in
    let same : (((n / 10000 % 10 * 10 + n / 1000 % 10) * 10 + n / 100 % 10) * 10 + n / 10 % 10) * 10 + n / 1 % 10 ≡ n = omega arith in
    ap (λ v. if v then number_in (made_name letter n) else None) (eq-eqb letter letter refl) ∙ all ∙ ap (λ v. Some v) same

same_bytes : (x y : List ℕ) → bytes_eq x y ≡ true → x ≡ y
same_bytes x y e = (bytes_eq-Decides x y).0 e

-- no kept name is a made one whose number is not taken
not_kept : (letter n : ℕ) (taken : List ℕ) (x : List ℕ) (kept : List (List ℕ)) → number_of letter x ≡ Some n → covers letter taken kept ≡ true → is_in taken n ≡ false → list_any (bytes_eq x) kept ≡ false
not_kept letter n taken x [] is h free = refl
not_kept letter n taken x (y ∷ ys) is h free = by_first (bytes_eq x y) refl (covered taken (number_of letter y)) refl h (λ k. not_kept letter n taken x ys is k free)
  where
    by_first : (b : Bool) → bytes_eq x y ≡ b → (v : Bool) → covered taken (number_of letter y) ≡ v → (v && covers letter taken ys) ≡ true → (covers letter taken ys ≡ true → list_any (bytes_eq x) ys ≡ false) → (b || list_any (bytes_eq x) ys) ≡ false
    by_first b e false q k go = absurd (true≢false (sym k))
    by_first true e true q k go = absurd (true≢false (sym q ∙ ap (covered taken) (ap (number_of letter) (sym (same_bytes x y e)) ∙ is) ∙ free))
    by_first false e true q k go = go k

pub made_fresh : (s : Used) (n : ℕ) → n < 100000 → covers s.letter s.numbers.taken s.kept ≡ true → is_in s.numbers.taken n ≡ false → is_in s.numbers.made n ≡ false → is_used s (made_name s.letter n) ≡ false
made_fresh s n lt h free new =
    ap (λ b. b || holds_number s.numbers.made (number_of s.letter (made_name s.letter n))) (not_kept s.letter n s.numbers.taken (made_name s.letter n) s.kept (is_number s.letter n lt) h free)
    ∙ ap (holds_number s.numbers.made) (is_number s.letter n lt) ∙ new

-- one kept name more
pub covers_more : (letter : ℕ) (taken : List ℕ) (xs : List (List ℕ)) (x : List ℕ) → covers letter taken xs ≡ true → covered taken (number_of letter x) ≡ true → covers letter taken (xs ++ x ∷ []) ≡ true
covers_more letter taken [] x h k = ap (λ b. b && true) k
covers_more letter taken (y ∷ ys) x h k = by_first (covered taken (number_of letter y)) h (λ e. covers_more letter taken ys x e k)
  where
    by_first : (b : Bool) → (b && covers letter taken ys) ≡ true → (covers letter taken ys ≡ true → covers letter taken (ys ++ x ∷ []) ≡ true) → (b && covers letter taken (ys ++ x ∷ [])) ≡ true
    by_first true e go = go e
    by_first false e go = absurd (true≢false (sym e))

-- one number more
in_more : (ns : List ℕ) (m n : ℕ) → is_in ns n ≡ true → is_in (ns ++ m ∷ []) n ≡ true
in_more [] m n e = absurd (true≢false (sym e))
in_more (k ∷ ns) m n e = by_first (nat_eq k n) e (in_more ns m n)
  where
    by_first : (b : Bool) → (b || is_in ns n) ≡ true → (is_in ns n ≡ true → is_in (ns ++ m ∷ []) n ≡ true) → (b || is_in (ns ++ m ∷ []) n) ≡ true
    by_first true h go = refl
    by_first false h go = go h

in_itself : (ns : List ℕ) (n : ℕ) → is_in (ns ++ n ∷ []) n ≡ true
in_itself [] n = ap (λ b. b || false) (eq-eqb n n refl)
in_itself (k ∷ ns) n = by_first (nat_eq k n) (in_itself ns n)
  where
    by_first : (b : Bool) → is_in (ns ++ n ∷ []) n ≡ true → (b || is_in (ns ++ n ∷ []) n) ≡ true
    by_first true h = refl
    by_first false h = h

taken_in : (s : Numbering) (m n : ℕ) → is_in s.taken n ≡ true → is_in (taking s m).taken n ≡ true
taken_in s m n e = by_old (is_in s.taken m)
  where
    by_old : (b : Bool) → is_in (if b then s.taken else (s.taken ++ m ∷ [])) n ≡ true
    by_old true = e
    by_old false = in_more s.taken m n e

taken_itself : (s : Numbering) (m : ℕ) → is_in (taking s m).taken m ≡ true
taken_itself s m = by_old (is_in s.taken m) refl
  where
    by_old : (b : Bool) → is_in s.taken m ≡ b → is_in (if b then s.taken else (s.taken ++ m ∷ [])) m ≡ true
    by_old true e = e
    by_old false e = in_itself s.taken m

covered_taking : (m : ℕ) (s : Numbering) (o : Option ℕ) → covered s.taken o ≡ true → covered (taking s m).taken o ≡ true
covered_taking m s None e = refl
covered_taking m s (Some n) e = taken_in s m n e

covers_taking : (letter m : ℕ) (s : Numbering) (xs : List (List ℕ)) → covers letter s.taken xs ≡ true → covers letter (taking s m).taken xs ≡ true
covers_taking letter m s [] h = refl
covers_taking letter m s (x ∷ xs) h = by_first (covered s.taken (number_of letter x)) refl h (covers_taking letter m s xs)
  where
    by_first : (v : Bool) → covered s.taken (number_of letter x) ≡ v → (v && covers letter s.taken xs) ≡ true → (covers letter s.taken xs ≡ true → covers letter (taking s m).taken xs ≡ true) → (covered (taking s m).taken (number_of letter x) && covers letter (taking s m).taken xs) ≡ true
    by_first true q k go = ap (λ v. v && covers letter (taking s m).taken xs) (covered_taking m s (number_of letter x) q) ∙ go k
    by_first false q k go = absurd (true≢false (sym k))

pub covers_keeping : (letter : ℕ) (s : Numbering) (xs : List (List ℕ)) (x : List ℕ) → covers letter s.taken xs ≡ true → covers letter (taking_if s (number_of letter x)).taken (xs ++ x ∷ []) ≡ true
covers_keeping letter s xs x h = by_number (number_of letter x) refl
  where
    by_number : (o : Option ℕ) → number_of letter x ≡ o → covers letter (taking_if s o).taken (xs ++ x ∷ []) ≡ true
    by_number None e = covers_more letter s.taken xs x h (ap (covered s.taken) e)
    by_number (Some n) e = covers_more letter (taking s n).taken xs x (covers_taking letter n s xs h) (ap (covered (taking s n).taken) e ∙ taken_itself s n)

pub taken-length : (s : Numbering) (o : Option ℕ) → length (taking_if s o).taken ≤ length s.taken + 1
taken-length s None = omega arith
taken-length s (Some n) = by_old (is_in s.taken n)
  where
    by_old : (b : Bool) → length (if b then s.taken else (s.taken ++ n ∷ [])) ≤ length s.taken + 1
    by_old true = omega arith
    by_old false = omega (arith, length-append s.taken (n ∷ []))

pub free_unused : (s : Used) (x : List ℕ) → is_free s x ≡ true → is_used s x ≡ false
free_unused s x e = by_tests (nat_le (length x) 6) (list_any (bytes_eq x) intrinsic_names) (is_used s x) e
  where
    by_tests : (a b c : Bool) → (a && (not b && not c)) ≡ true → c ≡ false
    by_tests true true c h = absurd (true≢false (sym h))
    by_tests true false true h = absurd (true≢false (sym h))
    by_tests true false false h = refl
    by_tests false b c h = absurd (true≢false (sym h))

-- what is kept of a struct's fields
pub keeps : (letter : ℕ) (s t : Numbering) (xs ys : List (List ℕ)) (x : List ℕ) → covers letter s.taken xs ≡ true → length s.taken ≤ length xs → ys ≡ xs ++ x ∷ [] → t ≡ taking_if s (number_of letter x) → (covers letter t.taken ys ≡ true) × (length t.taken ≤ length ys) × (t.first ≡ s.first)
keeps letter s t xs ys x h le items numbers =
    let long : length ys ≡ length xs + 1 = ap length items ∙ length-append xs (x ∷ []) in
    let shorter : length t.taken ≤ length s.taken + 1 = subst (λ (v : Numbering). length v.taken ≤ length s.taken + 1) (sym numbers) (taken-length s (number_of letter x)) in
    (ap (λ v. covers letter t.taken v) items ∙ ap (λ (v : Numbering). covers letter v.taken (xs ++ x ∷ [])) numbers ∙ covers_keeping letter s xs x h, omega (arith, long, shorter), ap (λ (v : Numbering). v.first) numbers ∙ first_kept (number_of letter x))
  where
    first_kept : (o : Option ℕ) → (taking_if s o).first ≡ s.first
    first_kept None = refl
    first_kept (Some n) = refl
