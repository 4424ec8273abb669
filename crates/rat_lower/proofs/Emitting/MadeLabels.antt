-- The labels that are made: each is the next one in a fixed order, which depends on the members of the taken list alone.
use Rattle.std.proofs.Common.{◌≡◌, ℕ, zero, suc, ◌+◌, ◌<◌, ◌≤◌, List, [], ◌∷◌, ◌++◌, length, drop, get_or, Bool, true, false, true≢false, refl, sym, ap, ◌∙◌, subst, arith, length-append, if◌then◌else◌}
use Rattle.std.proofs.Common.{Result, Ok, Err, IfOk, OnOk, OnErr}
use Rattle.std.specs.Prelude.{nat_eq, ◌||◌}
use Rattle.std.proofs.Math.Seq.{drop-cons}
use Rattle.std.proofs.Math.ListN.{drop_of_length-le}
use Rattle.ground.specs.declared.fault.Memory.{Memory}
use Rattle.f66_tree.specs.Syntax.{Text}
use Rattle.name_alloc.specs.Numbers.{Numbering, is_in, free_from, free_number, behind, next_number, taking, making, start_of, made_number, made_first}
use Rattle.name_alloc.specs.MadeNames.{Used, labelling}
use Rattle.name_alloc.proofs.Free.{free_from-free, free_from-above, above-length, behind-first, made-rises}
use Rattle.rat_lower.specs.Emitted.{Making, labels_past}

-- the labels made so far are the first ones
abbrev pub IsInOrder : Numbering → Type 0
IsInOrder s = (s.first ≡ 23000) × (s.made ≡ made_first 23000 s.taken (length s.made))

next_made : (s : Numbering) → IsInOrder s → next_number s ≡ made_number 23000 s.taken (length s.made)
next_made s h =
    ap (λ f. free_number s.taken (behind f s.made)) h.0
    ∙ ap (λ ms. free_number s.taken (behind 23000 ms)) h.1
    ∙ ap (free_number s.taken) (behind-first 23000 s.taken (length s.made))

one_more : (s : Numbering) → length (making s).made ≡ length s.made + 1
one_more s = length-append s.made (next_number s ∷ [])

still_in_order : (s : Numbering) → IsInOrder s → IsInOrder (making s)
still_in_order s h =
    let k : suc (length s.made) ≡ length (making s).made = omega (arith, one_more s) in
    (h.0, ap (λ ms. ms ++ next_number s ∷ []) h.1 ∙ ap (λ n. made_first 23000 s.taken (length s.made) ++ n ∷ []) (next_made s h) ∙ ap (made_first 23000 s.taken) k)

pub order_kept : (r : Result ℕ Memory) (old new : Used) → IsInOrder old.labels → OnOk r (new ≡ labelling old (making old.labels)) → OnErr r (new ≡ old) → IsInOrder new.labels
order_kept (Ok l) old new h made kept = subst (λ (u : Used). IsInOrder u.labels) (sym made) (still_in_order old.labels h)
order_kept (Err e) old new h made kept = subst (λ (u : Used). IsInOrder u.labels) (sym kept) h

pub label_made : (r : Result ℕ Memory) (s : Numbering) (x y : Text) (m : Making) → IsInOrder s → (let v : Making = record { taken = s.taken; made = length s.made; spare = x; own = y } in v ≡ m) → IfOk r (λ l. l ≡ next_number s) → IfOk r (λ l. l ≡ labels_past m.taken m.made)
label_made (Ok l) s x y m h seen is = is ∙ next_made s h ∙ ap (λ (v : Making). labels_past v.taken v.made) seen
label_made (Err e) s x y m h seen is = is

-- a number that is found is the least
least : (f : ℕ) (ys : List ℕ) (n m : ℕ) → n ≤ m → is_in ys m ≡ false → free_from f ys n ≤ m
least zero ys n m le e = le
least (suc f) ys n m le e = go (is_in ys n) refl (λ lt. least f ys (n + 1) m (omega (arith, lt)) e)
  where
    go : (b : Bool) → is_in ys n ≡ b → (n < m → free_from f ys (n + 1) ≤ m) → (if b then free_from f ys (n + 1) else n) ≤ m
    go true h k = k (apart (λ same. true≢false (sym h ∙ ap (is_in ys) same ∙ e)))
      where
        apart : (n ≡ m → ⊥) → n < m
        apart ne = omega (arith, ne)
    go false h k = le

not_above : (xs ys : List ℕ) → ((n : ℕ) → is_in xs n ≡ is_in ys n) → (n : ℕ) → free_number xs n ≤ free_number ys n
not_above xs ys same n =
    least (length xs) xs n (free_number ys n) (free_from-above (length ys) ys n).0 (same (free_number ys n) ∙ free_from-free (length ys) ys n (above-length n ys))

free_same : (xs ys : List ℕ) → ((n : ℕ) → is_in xs n ≡ is_in ys n) → (n : ℕ) → free_number xs n ≡ free_number ys n
free_same xs ys same n =
    let a = not_above xs ys same n in
    let b = not_above ys xs (λ m. sym (same m)) n in
    omega (arith, a, b)

start_same : (xs ys : List ℕ) → ((n : ℕ) → is_in xs n ≡ is_in ys n) → (i : ℕ) → start_of 23000 xs i ≡ start_of 23000 ys i
start_same xs ys same zero = refl
start_same xs ys same (suc i) = ap (λ n. n + 1) (free_same xs ys same (start_of 23000 xs i) ∙ ap (free_number ys) (start_same xs ys same i))

pub labels_same : (xs ys : List ℕ) → ((n : ℕ) → is_in xs n ≡ is_in ys n) → (i : ℕ) → labels_past xs i ≡ labels_past ys i
labels_same xs ys same i = free_same xs ys same (start_of 23000 xs i) ∙ ap (free_number ys) (start_same xs ys same i)

-- made labels rise, and none of them is taken
pub labels_rise : (taken : List ℕ) (i j : ℕ) → i < j → labels_past taken i < labels_past taken j
labels_rise taken i j lt = made-rises 23000 taken i j lt

first_low : (taken : List ℕ) → 1 ≤ labels_past taken 0
first_low taken = omega (arith, (free_from-above (length taken) taken 23000).0)

pub labels_low : (taken : List ℕ) (i : ℕ) → 1 ≤ labels_past taken i
labels_low taken zero = first_low taken
labels_low taken (suc i) = omega (arith, first_low taken, labels_rise taken 0 (suc i) (omega arith))

-- some labels are kept, and those left would make all
in_taking : (s : Numbering) (l n : ℕ) (b : Bool) → (is_in (taking s l).taken n || b) ≡ (is_in s.taken n || (nat_eq l n || b))
in_taking s l n b = by_old (is_in s.taken l) refl
  where
    swapped : (x y z : Bool) → (x || (y || z)) ≡ (y || (x || z))
    swapped true true z = refl
    swapped true false z = refl
    swapped false y z = refl

    behind_all : (xs : List ℕ) → (is_in (xs ++ l ∷ []) n || b) ≡ (is_in xs n || (nat_eq l n || b))
    behind_all [] = by_case (nat_eq l n)
      where
        by_case : (x : Bool) → ((x || false) || b) ≡ (false || (x || b))
        by_case true = refl
        by_case false = refl
    behind_all (x ∷ xs) = by_case (nat_eq x n) (behind_all xs)
      where
        by_case : (y : Bool) → (is_in (xs ++ l ∷ []) n || b) ≡ (is_in xs n || (nat_eq l n || b)) → ((y || is_in (xs ++ l ∷ []) n) || b) ≡ ((y || is_in xs n) || (nat_eq l n || b))
        by_case true h = refl
        by_case false h = h

    there : (c : Bool) → nat_eq l n ≡ c → is_in s.taken l ≡ true → (is_in s.taken n || b) ≡ (is_in s.taken n || (c || b))
    there true e h = ap (λ v. v || b) (sym (ap (is_in s.taken) (equal e)) ∙ h) ∙ sym (ap (λ v. v || (true || b)) (sym (ap (is_in s.taken) (equal e)) ∙ h))
      where
        equal : nat_eq l n ≡ true → l ≡ n
        equal q = grind (arith, q)
    there false e h = refl

    by_old : (c : Bool) → is_in s.taken l ≡ c → (is_in (if c then s.taken else (s.taken ++ l ∷ [])) n || b) ≡ (is_in s.taken n || (nat_eq l n || b))
    by_old true h = there (nat_eq l n) refl h
    by_old false h = behind_all s.taken

pub record Kept (all left : List ℕ) (s : Numbering) : Type 0 where
  pub first : s.first ≡ 23000
  pub made : s.made ≡ []
  pub few : length s.taken + length left ≤ length all
  pub same : (n : ℕ) → (is_in s.taken n || is_in left n) ≡ is_in all n

pub kept_more : (all left : List ℕ) (s : Numbering) (l : ℕ) → Kept all (l ∷ left) s → Kept all left (taking s l)
kept_more all left s l h = record {
  first = h.first;
  made = h.made;
  few = shorter (is_in s.taken l);
  same = λ n. in_taking s l n (is_in left n) ∙ h.same n;
}
  where
    shorter : (b : Bool) → length (if b then s.taken else (s.taken ++ l ∷ [])) + length left ≤ length all
    shorter true = omega (arith, h.few)
    shorter false = omega (arith, h.few, length-append s.taken (l ∷ []))

pub kept_next : (all : List ℕ) (i l : ℕ) (s : Numbering) → i < length all → l ≡ get_or all i 0 → Kept all (drop i all) s → Kept all (drop (i + 1) all) (taking s l)
kept_next all i l s lt is h =
    let e : suc i ≡ i + 1 = omega arith in
    kept_more all (drop (i + 1) all) s l (subst (λ v. Kept all v s) (drop-cons all i 0 lt ∙ ap (λ v. v ∷ drop (suc i) all) (sym is) ∙ ap (λ m. l ∷ drop m all) e) h)

pub kept_all : (all : List ℕ) (i : ℕ) (s : Numbering) → length all ≤ i → Kept all (drop i all) s → Kept all [] s
kept_all all i s le h = subst (λ v. Kept all v s) (drop_of_length-le all le) h

pub kept_labels : (all : List ℕ) (s : Numbering) → Kept all [] s → (i : ℕ) → labels_past s.taken i ≡ labels_past all i
kept_labels all s h i = labels_same s.taken all (λ n. or_false (is_in s.taken n) ∙ h.same n) i
  where
    or_false : (b : Bool) → b ≡ (b || false)
    or_false true = refl
    or_false false = refl
