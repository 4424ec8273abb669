-- What the uses of macros still stand for, as one is begun, goes on and ends.
use Rattle.std.proofs.Common.{◌≡◌, ℕ, zero, suc, ◌+◌, ◌<◌, ◌==◌, Bool, true, false, ◌||◌, List, [], ◌∷◌, ◌++◌, length, drop, refl, sym, ◌∙◌, ap, subst, arith, slice_get, Some, None, Result, Ok, Err, if◌then◌else◌, true≢false}
use Rattle.std.specs.List.{list_any}
use Rattle.ground.specs.declared.fault.Fault.{Fault}
use Rattle.ground.specs.declared.fault.FaultKind.TheVariants.{MacroLoop}
use Rattle.ground.specs.declared.place.Place.{Place}
use Rattle.ground.specs.declared.token.Dialect.{Dialect}
use Rattle.ground.specs.declared.token.TokenKind.{TokenKind}
use Rattle.macro_define.specs.declared.uses.Use.{Use}
use Rattle.ground.specs.Faults.{fault_at}
use Rattle.macro_define.specs.Made.{Made, and_then, counted}
use Rattle.macro_define.specs.Macros.{Macros, kind_made, replaced, text_made, text_of}
use Rattle.macro_define.specs.Uses.{free, in_progress, rest_made, still_made, used}
use Rattle.macro_define.proofs.ListLemmas.{and_then-assoc, and_then-ok, and_then-same, drop-at_none, drop-at_some}

abbrev is_in : ℕ → List ℕ → Bool
is_in n progress = list_any (λ i. i == n) progress

pub free-none : (n : ℕ) → free n [] ≡ n
free-none zero = refl
free-none (suc n) = ap (λ k. k + 1) (free-none n) ∙ omega arith

-- a number that is not below n changes nothing
free-above : (n k : ℕ) (progress : List ℕ) → n < k + 1 → free n (k ∷ progress) ≡ free n progress
free-above zero k progress h = refl
free-above (suc n) k progress h =
    let other : (k == n) ≡ false = grind arith in
    ap (λ a. a + (if k == n || is_in n progress then 0 else 1)) (free-above n k progress (omega arith))
    ∙ ap (λ b. free n progress + (if b || is_in n progress then 0 else 1)) other

-- a number in progress more is one less that is free
free-begun_here : (n k : ℕ) (progress : List ℕ) (b : Bool) → (k == n) ≡ b → k < n + 1 → is_in k progress ≡ false
    → (k < n → free n (k ∷ progress) + 1 ≡ free n progress) → free (suc n) (k ∷ progress) + 1 ≡ free (suc n) progress
free-begun_here n k progress true same h new below =
    let equal : k ≡ n = grind arith in
    let e : is_in n progress ≡ false = subst (λ i. is_in i progress ≡ false) equal new in
    let f : free n (k ∷ progress) ≡ free n progress = free-above n k progress (omega arith) in
    ap (λ b. free n (k ∷ progress) + (if b || is_in n progress then 0 else 1) + 1) same
    ∙ (let g : free n (k ∷ progress) + 0 + 1 ≡ free n progress + 1 = omega arith in g)
    ∙ ap (λ b. free n progress + (if b then 0 else 1)) (sym e)
free-begun_here n k progress false other h new below =
    let less : k < n = grind arith in
    let f = below less in
    let x = if is_in n progress then 0 else 1 in
    let g : free n (k ∷ progress) + x + 1 ≡ free n progress + x = omega arith in
    ap (λ b. free n (k ∷ progress) + (if b || is_in n progress then 0 else 1) + 1) other ∙ g

pub free-begun : (n k : ℕ) (progress : List ℕ) → k < n → is_in k progress ≡ false → free n (k ∷ progress) + 1 ≡ free n progress
free-begun zero k progress h new = absurd (omega arith)
free-begun (suc n) k progress h new = free-begun_here n k progress (k == n) refl (omega arith) new (λ less. free-begun n k progress less new)

-- where none is free, each is in progress
free-zero_here : (n k : ℕ) (progress : List ℕ) (b c : Bool) → (k == n) ≡ b → is_in n progress ≡ c → k < n + 1 → free n progress + (if c then 0 else 1) ≡ 0
    → (k < n → free n progress ≡ 0 → is_in k progress ≡ true) → is_in k progress ≡ true
free-zero_here n k progress b false e f h none below = absurd (omega arith)
free-zero_here n k progress true true e f h none below = let equal : k ≡ n = grind arith in subst (λ i. is_in i progress ≡ true) (sym equal) f
free-zero_here n k progress false true e f h none below = below (grind arith) (omega arith)

pub free-zero : (n k : ℕ) (progress : List ℕ) → k < n → free n progress ≡ 0 → is_in k progress ≡ true
free-zero zero k progress h e = absurd (omega arith)
free-zero (suc n) k progress h e = free-zero_here n k progress (k == n) (is_in n progress) refl refl (omega arith) e (free-zero n k progress)

or_moved : (a b c : Bool) → (a || (b || c)) ≡ ((b || a) || c)
or_moved true true c = refl
or_moved true false c = refl
or_moved false true c = refl
or_moved false false c = refl

pub is_in-in_progress : (n : ℕ) (progress : List ℕ) (us : List Use) → is_in n (in_progress progress us) ≡ (list_any (λ u. u.number == n) us || is_in n progress)
is_in-in_progress n progress [] = refl
is_in-in_progress n progress (u ∷ us) = is_in-in_progress n (u.number ∷ progress) us ∙ or_moved (list_any (λ u. u.number == n) us) (u.number == n) (is_in n progress)

pub in_progress-push : (progress : List ℕ) (us : List Use) (u : Use) → in_progress progress (us ++ u ∷ []) ≡ u.number ∷ in_progress progress us
in_progress-push progress [] u = refl
in_progress-push progress (v ∷ us) u = in_progress-push (v.number ∷ progress) us u

module _ (d : Dialect) (macros : Macros) (place : Place) where
  -- one use more, the innermost
  pub still_made-push : (progress : List ℕ) (us : List Use) (u : Use) (m : Made)
      → still_made d macros place progress (us ++ u ∷ []) m
      ≡ and_then (rest_made d macros place (u.number ∷ in_progress progress us) u m) (still_made d macros place progress us)
  still_made-push progress [] u m = sym (and_then-ok (rest_made d macros place (u.number ∷ progress) u m))
  still_made-push progress (v ∷ us) u m =
      let inner = still_made d macros place (v.number ∷ progress) us in
      let here = rest_made d macros place (u.number ∷ in_progress (v.number ∷ progress) us) u m in
      let outer = rest_made d macros place (v.number ∷ progress) v in
      ap (λ r. and_then r outer) (still_made-push (v.number ∷ progress) us u m) ∙ and_then-assoc here inner outer

  -- a name in progress is the fault
  used-loop : (free_now : ℕ) (progress : List ℕ) (n : ℕ) (m : Made) → is_in n progress ≡ true
      → replaced d macros place free_now progress n m ≡ Err (fault_at place MacroLoop)
  used-loop zero progress n m h = refl
  used-loop (suc k) progress n m h = ap (λ b. if b then Err (fault_at place MacroLoop) else and_then (counted place m) (text_made d macros place (replaced d macros place k (n ∷ progress)) (text_of macros n))) h

  used-new : (free_now : ℕ) (progress : List ℕ) (n : ℕ) (m : Made) → n < length macros → is_in n progress ≡ false → free (length macros) progress ≡ free_now
      → replaced d macros place free_now progress n m ≡ and_then (counted place m) (text_made d macros place (used d macros place (n ∷ progress)) (text_of macros n))
  used-new zero progress n m h new e = absurd (true≢false (sym (free-zero (length macros) n progress h e) ∙ new))
  used-new (suc k) progress n m h new e =
      let less : k ≡ free (length macros) (n ∷ progress) = omega (arith, free-begun (length macros) n progress h new) in
      ap (λ b. if b then Err (fault_at place MacroLoop) else and_then (counted place m) (text_made d macros place (replaced d macros place k (n ∷ progress)) (text_of macros n))) new
      ∙ ap (λ f. and_then (counted place m) (text_made d macros place (replaced d macros place f (n ∷ progress)) (text_of macros n))) less

  numbers-in : (us : List Use) (n : ℕ) (b : Bool) → list_any (λ u. u.number == n) us ≡ b → is_in n (in_progress [] us) ≡ b
  numbers-in us n true h = is_in-in_progress n [] us ∙ ap (λ x. x || false) h
  numbers-in us n false h = is_in-in_progress n [] us ∙ ap (λ x. x || false) h

  abbrev pub begun_by : List Use → ℕ → Made → Result Made Fault
  begun_by us n m = and_then (used d macros place (in_progress [] us) n m) (still_made d macros place [] us)

  -- the text of a macro in progress is not begun again
  pub begun-loop : (us : List Use) (n : ℕ) (m : Made) → list_any (λ u. u.number == n) us ≡ true → begun_by us n m ≡ Err (fault_at place MacroLoop)
  begun-loop us n m h = ap (λ r. and_then r (still_made d macros place [] us)) (used-loop (free (length macros) (in_progress [] us)) (in_progress [] us) n m (numbers-in us n true h))

  begun-new : (us : List Use) (n : ℕ) (m : Made) (r : Result Made Fault) → n < length macros → list_any (λ u. u.number == n) us ≡ false → counted place m ≡ r
      → begun_by us n m ≡ and_then (and_then r (text_made d macros place (used d macros place (n ∷ in_progress [] us)) (text_of macros n))) (still_made d macros place [] us)
  begun-new us n m r h new e =
      ap (λ x. and_then x (still_made d macros place [] us)) (used-new (free (length macros) (in_progress [] us)) (in_progress [] us) n m h (numbers-in us n false new) refl
      ∙ ap (λ x. and_then x (text_made d macros place (used d macros place (n ∷ in_progress [] us)) (text_of macros n))) e)

  pub begun-limit : (us : List Use) (n : ℕ) (m : Made) (fault : Fault) → n < length macros → list_any (λ u. u.number == n) us ≡ false → counted place m ≡ Err fault → begun_by us n m ≡ Err fault
  begun-limit us n m fault h new e = begun-new us n m (Err fault) h new e

  pub begun-goes : (us : List Use) (n : ℕ) (m after : Made) → n < length macros → list_any (λ u. u.number == n) us ≡ false → counted place m ≡ Ok after
      → begun_by us n m ≡ still_made d macros place [] (us ++ record { number = n; next = 0 } ∷ []) after
  begun-goes us n m after h new e = begun-new us n m (Ok after) h new e ∙ sym (still_made-push [] us (record { number = n; next = 0 }) after)

  -- a text that has ended
  pub still-ended : (us : List Use) (u : Use) (m : Made) → slice_get (text_of macros u.number) u.next ≡ None
      → still_made d macros place [] (us ++ u ∷ []) m ≡ still_made d macros place [] us m
  still-ended us u m e =
      still_made-push [] us u m
      ∙ ap (λ ks. and_then (text_made d macros place (used d macros place (u.number ∷ in_progress [] us)) ks m) (still_made d macros place [] us)) (drop-at_none (text_of macros u.number) u.next e)

  -- a text goes on with its next token
  pub still-next : (us : List Use) (u : Use) (m : Made) (kind : TokenKind) → slice_get (text_of macros u.number) u.next ≡ Some kind
      → (later : List Use) → later ≡ us ++ record { number = u.number; next = u.next + 1 } ∷ []
      → still_made d macros place [] (us ++ u ∷ []) m
      ≡ and_then (kind_made d macros place (used d macros place (in_progress [] later)) kind m) (still_made d macros place [] later)
  still-next us u m kind e later is =
      let next : Use = record { number = u.number; next = u.next + 1 } in
      let progress = u.number ∷ in_progress [] us in
      let first = kind_made d macros place (used d macros place progress) kind m in
      let rest = text_made d macros place (used d macros place progress) (drop (u.next + 1) (text_of macros u.number)) in
      let outer = still_made d macros place [] us in
      still_made-push [] us u m
      ∙ ap (λ ks. and_then (text_made d macros place (used d macros place progress) ks m) outer) (drop-at_some (text_of macros u.number) u.next kind e)
      ∙ and_then-assoc first rest outer
      ∙ and_then-same first (λ x. and_then (rest x) outer) (still_made d macros place [] (us ++ next ∷ [])) (λ x. sym (still_made-push [] us next x))
      ∙ ap (λ p. and_then (kind_made d macros place (used d macros place p) kind m) (still_made d macros place [] (us ++ next ∷ []))) (sym (in_progress-push [] us next))
      ∙ ap (λ (l : List Use). and_then (kind_made d macros place (used d macros place (in_progress [] l)) kind m) (still_made d macros place [] l)) (sym is)

  -- the whole of what a macro makes
  pub replaced-all : (n : ℕ) (m : Made) → and_then (used d macros place (in_progress [] []) n m) (still_made d macros place [] []) ≡ replaced d macros place (length macros) [] n m
  replaced-all n m =
      and_then-ok (used d macros place [] n m)
      ∙ ap (λ f. replaced d macros place f [] n m) (free-none (length macros))
