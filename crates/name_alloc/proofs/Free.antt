-- A made number is not taken, and made numbers rise.
use Rattle.std.proofs.Common.{◌≡◌, ℕ, zero, suc, ◌+◌, ◌<◌, ◌≤◌, List, [], ◌∷◌, length, Bool, true, false, refl, sym, ap, ◌∙◌, subst, ◌++◌, arith, true≢false, if◌then◌else◌, ⊎_elim}
use Rattle.std.proofs.lemmas.Bool.Decides.{nat_tests}
use Rattle.std.proofs.lemmas.Bool.{eqb-true, ne_eqb, or_cases, cases_lt}
use Rattle.std.specs.Prelude.{nat_eq, nat_le, ◌||◌}
use Rattle.name_alloc.specs.Numbers.{is_in, above, free_from, free_number, behind, start_of, made_number, made_first}

pub above-length : (n : ℕ) (ys : List ℕ) → above n ys ≤ length ys
above-length n [] = omega arith
above-length n (y ∷ ys) = go (nat_le n y) (above-length n ys)
  where
    go : (b : Bool) → above n ys ≤ length ys → (if b then 1 else 0) + above n ys ≤ suc (length ys)
    go true h = omega arith
    go false h = omega arith

one_less : (n y : ℕ) → (if nat_le (n + 1) y then 1 else 0) ≤ (if nat_le n y then 1 else 0)
one_less n y = grind arith

above-less : (n : ℕ) (ys : List ℕ) → above (n + 1) ys ≤ above n ys
above-less n [] = omega arith
above-less n (y ∷ ys) = omega (arith, above-less n ys, one_less n y)

same_counts : (n y : ℕ) → nat_eq y n ≡ true → (if nat_le (n + 1) y then 1 else 0) + 1 ≡ (if nat_le n y then 1 else 0)
same_counts n y e = let h = eqb-true y n e in grind (arith, nat_tests)

pub above-taken : (n : ℕ) (ys : List ℕ) → is_in ys n ≡ true → above (n + 1) ys < above n ys
above-taken n [] e = absurd (true≢false (sym e))
above-taken n (y ∷ ys) e =
    ⊎_elim
    (λ (h : nat_eq y n ≡ true). omega (arith, same_counts n y h, above-less n ys))
    (λ (h : is_in ys n ≡ true). omega (arith, one_less n y, above-taken n ys h))
    (or_cases _ _ e)

taken_above : (n : ℕ) (ys : List ℕ) → above n ys ≡ 0 → is_in ys n ≡ false
taken_above n ys e = go (is_in ys n) refl
  where
    go : (b : Bool) → is_in ys n ≡ b → b ≡ false
    go true h = absurd (omega (arith, above-taken n ys h))
    go false h = refl

-- with enough room, the label that is found is free
pub free_from-free : (f : ℕ) (ys : List ℕ) (n : ℕ) → above n ys ≤ f → is_in ys (free_from f ys n) ≡ false
free_from-free zero ys n le = taken_above n ys (omega arith)
free_from-free (suc f) ys n le = go (is_in ys n) refl (λ h. free_from-free f ys (n + 1) (omega (arith, above-taken n ys h)))
  where
    go : (b : Bool) → is_in ys n ≡ b → (is_in ys n ≡ true → is_in ys (free_from f ys (n + 1)) ≡ false) → is_in ys (if b then free_from f ys (n + 1) else n) ≡ false
    go true h ih = ih h
    go false h ih = h

-- it is not below n, and passes only taken ones
pub free_from-above : (f : ℕ) (ys : List ℕ) (n : ℕ) → (n ≤ free_from f ys n) × (free_from f ys n + above (free_from f ys n) ys ≤ n + above n ys)
free_from-above zero ys n = (omega arith, omega arith)
free_from-above (suc f) ys n = go (is_in ys n) refl (free_from-above f ys (n + 1))
  where
    go : (b : Bool) → is_in ys n ≡ b → (n + 1 ≤ free_from f ys (n + 1)) × (free_from f ys (n + 1) + above (free_from f ys (n + 1)) ys ≤ n + 1 + above (n + 1) ys) → (n ≤ (if b then free_from f ys (n + 1) else n)) × ((if b then free_from f ys (n + 1) else n) + above (if b then free_from f ys (n + 1) else n) ys ≤ n + above n ys)
    go true h ih = (omega (arith, ih.0), omega (arith, ih.1, above-taken n ys h))
    go false h ih = (omega arith, omega arith)

pub free_here : (f : ℕ) (ys : List ℕ) (n : ℕ) → is_in ys n ≡ false → free_from f ys n ≡ n
free_here zero ys n e = refl
free_here (suc f) ys n e = ap (λ b. if b then free_from f ys (n + 1) else n) e

pub free_next : (f g : ℕ) (ys : List ℕ) (n : ℕ) → f ≡ suc g → is_in ys n ≡ true → free_from f ys n ≡ free_from g ys (n + 1)
free_next f g ys n e h = ap (λ k. free_from k ys n) e ∙ ap (λ b. if b then free_from g ys (n + 1) else n) h

pub free_none : (f : ℕ) (ys : List ℕ) (n : ℕ) → f ≡ 0 → free_from f ys n ≡ n
free_none f ys n e = ap (λ k. free_from k ys n) e

-- the i-th number, where none is taken in between
pub made-free : (first : ℕ) (taken : List ℕ) (i : ℕ) → is_in taken (made_number first taken i) ≡ false
made-free first taken i = free_from-free (length taken) taken (start_of first taken i) (above-length (start_of first taken i) taken)

pub start-low : (first : ℕ) (taken : List ℕ) (i : ℕ) → start_of first taken i + above (start_of first taken i) taken ≤ first + i + length taken
start-low first taken zero = omega (arith, above-length first taken)
start-low first taken (suc i) =
    let n = free_number taken (start_of first taken i) in
    omega (arith, start-low first taken i, (free_from-above (length taken) taken (start_of first taken i)).1, above-less (free_number taken (start_of first taken i)) taken)

pub made-low : (first : ℕ) (taken : List ℕ) (i : ℕ) → made_number first taken i ≤ first + i + length taken
made-low first taken i = omega (arith, start-low first taken i, (free_from-above (length taken) taken (start_of first taken i)).1)

pub made-rises : (first : ℕ) (taken : List ℕ) (i j : ℕ) → i < j → made_number first taken i < made_number first taken j
made-rises first taken i zero lt = absurd (omega arith)
made-rises first taken i (suc j) lt =
    ⊎_elim
    (λ (h : i < j). omega (arith, made-rises first taken i j h, (free_from-above (length taken) taken (start_of first taken (suc j))).0))
    (λ (h : j ≤ i). let e : i ≡ j = omega arith in omega (arith, ap (made_number first taken) e, (free_from-above (length taken) taken (start_of first taken (suc j))).0))
    (cases_lt i j)

-- behind the numbers made so far stands the one made last
pub behind-append : (n m : ℕ) (ms : List ℕ) → behind n (ms ++ m ∷ []) ≡ m + 1
behind-append n m [] = refl
behind-append n m (k ∷ ms) = behind-append (k + 1) m ms

-- so the next number is the one with that index
pub behind-first : (first : ℕ) (taken : List ℕ) (i : ℕ) → behind first (made_first first taken i) ≡ start_of first taken i
behind-first first taken zero = refl
behind-first first taken (suc i) = behind-append first (made_number first taken i) (made_first first taken i)

-- a number that is found is low enough, and so is the place behind it
pub found-low : (taken seen : List ℕ) (next r bound : ℕ) → seen ≡ taken → r ≡ free_number seen next → next + above next taken ≤ bound → r + above r taken ≤ bound
found-low taken seen next r bound same e le =
    let h : r ≡ free_number taken next = e ∙ ap (λ s. free_number s next) same in
    let low : free_number taken next + above (free_number taken next) taken ≤ next + above next taken = (free_from-above (length taken) taken next).1 in
    subst (λ v. v + above v taken ≤ bound) (sym h) (omega (arith, low))

pub behind-low : (taken seen : List ℕ) (next r bound : ℕ) → seen ≡ taken → r ≡ free_number seen next → next + above next taken ≤ bound → r + 1 + above (r + 1) taken ≤ bound + 1
behind-low taken seen next r bound same e le = omega (arith, found-low taken seen next r bound same e le, above-less r taken)

-- one taken number more
pub above-more : (n m : ℕ) (taken : List ℕ) → above n (taken ++ m ∷ []) ≤ above n taken + 1
above-more n m [] = one (nat_le n m)
  where
    one : (b : Bool) → (if b then 1 else 0) + 0 ≤ 0 + 1
    one true = omega arith
    one false = omega arith
above-more n m (k ∷ taken) = omega (arith, above-more n m taken)

pub not_in_more : (ms : List ℕ) (r n : ℕ) → is_in ms n ≡ false → r < n → is_in (ms ++ r ∷ []) n ≡ false
not_in_more [] r n e lt = ap (λ b. b || false) (ne_eqb r n (λ same. omega (arith, same)))
not_in_more (m ∷ ms) r n e lt = by_first (nat_eq m n) (is_in ms n) e (λ h. not_in_more ms r n h lt)
  where
    by_first : (a b : Bool) → (a || b) ≡ false → (b ≡ false → is_in (ms ++ r ∷ []) n ≡ false) → (a || is_in (ms ++ r ∷ []) n) ≡ false
    by_first true b h k = absurd (true≢false h)
    by_first false b h k = k h

-- the facts of a number that is found
pub found-free : (taken seen : List ℕ) (next r : ℕ) → seen ≡ taken → r ≡ free_number seen next → is_in taken r ≡ false
found-free taken seen next r same e =
    let h : r ≡ free_number taken next = e ∙ ap (λ s. free_number s next) same in
    ap (is_in taken) h ∙ free_from-free (length taken) taken next (above-length next taken)

pub found-above : (taken seen : List ℕ) (next r : ℕ) → seen ≡ taken → r ≡ free_number seen next → next ≤ r
found-above taken seen next r same e =
    let h : r ≡ free_number taken next = e ∙ ap (λ s. free_number s next) same in
    subst (λ v. next ≤ v) (sym h) (free_from-above (length taken) taken next).0
