-- Elements of lists that are made of lists, and of numbers that count.
use Rattle.std.proofs.Common.{◌≡◌, ℕ, zero, suc, ◌+◌, ◌*◌, ◌<◌, Bool, true, false, List, [], ◌∷◌, ◌++◌, length, map, Some, refl, sym, ap, subst, ◌∙◌, inl, inr, arith}
use Rattle.std.specs.Prelude.{ℤ, pos, negsuc, ◌+ℤ◌, ◌-ℤ◌, unsigned_abs, int_le, int_lt, ◌⊎◌, T, ◌≤ℤ◌, ◌<ℤ◌, if◌then◌else◌}
use Rattle.std.specs.List.{slice_get}
use Rattle.std.proofs.Math.IntN.{+ℤ_assoc, +ℤ_comm, +ℤ_idr, +ℤ-neg_ℤ_cancel}
use Rattle.std.proofs.lemmas.Int.{ints}
use Rattle.std.proofs.Math.ListN.{length-append}
use Rattle.std.proofs.lemmas.Option.{none-some, same_Some}
use Rattle.efl_program.specs.Places.{flat, counting}

holds : (b : Bool) → T b → b ≡ true
holds true t = refl
holds false t = absurd t

pub above : (a : ℤ) (r : ℕ) → int_le a (a +ℤ pos r) ≡ true
above a r = let h : a ≤ℤ (a +ℤ pos r) = omega (arith, ints) in holds (int_le a (a +ℤ pos r)) h.le

pub below : (a : ℤ) (r n : ℕ) → r < n → int_lt (a +ℤ pos r) (a +ℤ pos n) ≡ true
below a r n l = let h : (a +ℤ pos r) <ℤ (a +ℤ pos n) = omega (l, arith, ints) in holds (int_lt (a +ℤ pos r) (a +ℤ pos n)) h.lt

pub apart : (a : ℤ) (r : ℕ) → unsigned_abs ((a +ℤ pos r) -ℤ a) ≡ r
apart a r = ap unsigned_abs (ap (λ z. z -ℤ a) (+ℤ_comm a (pos r)) ∙ +ℤ-neg_ℤ_cancel (pos r) a)

-- how far one number is above another
pub reached : (a z : ℤ) → int_le a z ≡ true → (n : ℕ) × (z ≡ a +ℤ pos n)
reached a z h = by (z -ℤ a) refl
  where
    by : (d : ℤ) → z -ℤ a ≡ d → (n : ℕ) × (z ≡ a +ℤ pos n)
    by (pos n) e = (n, omega (arith, ints, e))
    by (negsuc n) e = absurd (omega (arith, ints, e, h))

-- a number between two others, by how far it is above the lower one
pub between : (a z b : ℤ) → int_le a z ≡ true → int_le z b ≡ true → unsigned_abs (z -ℤ a) < (if int_lt b a then 0 else unsigned_abs (b -ℤ a) + 1)
between a z b low high = by (int_lt b a) refl
  where
    by : (t : Bool) → int_lt b a ≡ t → unsigned_abs (z -ℤ a) < (if t then 0 else unsigned_abs (b -ℤ a) + 1)
    by true e = absurd (omega (arith, ints, e, low, high))
    by false e = let n = reached a z low in let m = reached z b high in
        omega (arith, nearer a z n.0 n.1, farther a z b n.0 m.0 n.1 m.1)
      where
        nearer : (a z : ℤ) (n : ℕ) → z ≡ a +ℤ pos n → unsigned_abs (z -ℤ a) ≡ n
        nearer a z n e = ap (λ y. unsigned_abs (y -ℤ a)) e ∙ apart a n

        farther : (a z b : ℤ) (n m : ℕ) → z ≡ a +ℤ pos n → b ≡ z +ℤ pos m → unsigned_abs (b -ℤ a) ≡ n + m
        farther a z b n m e f = nearer a b (n + m) (omega (arith, ints, e, f))

pub arrived : (a z : ℤ) → int_le a z ≡ true → a +ℤ pos (unsigned_abs (z -ℤ a)) ≡ z
arrived a z h = let n = reached a z h in ap (λ y. a +ℤ pos (unsigned_abs (y -ℤ a))) n.1 ∙ ap (λ m. a +ℤ pos m) (apart a n.0) ∙ sym n.1

-- so many places of the same size: how far on the r-th of the j-th is
pub far : (j m r n : ℕ) → r * m + j * (m * n) ≡ (j * n + r) * m
far j m r n = omega arith

-- ---- elements of lists ----

-- an element of two lists one behind the other
pub append_get : {A : Type 0} (xs ys : List A) (k : ℕ) (a : A) → slice_get (xs ++ ys) k ≡ Some a → (slice_get xs k ≡ Some a) ⊎ ((i : ℕ) × (k ≡ length xs + i) × (slice_get ys i ≡ Some a))
append_get [] ys k a e = inr (k, omega arith, e)
append_get (x ∷ xs) ys zero a e = inl e
append_get (x ∷ xs) ys (suc k) a e = elim (append_get xs ys k a e) [
  | inl h ↦ inl h
  | inr h ↦ inr (h.0, (let l : k ≡ length xs + h.0 = h.1 in omega arith), h.2)
]

pub map_get : {X A : Type 0} (f : X → A) (xs : List X) (k : ℕ) (a : A) → slice_get (map f xs) k ≡ Some a → (x : X) × (slice_get xs k ≡ Some x) × (f x ≡ a)
map_get f [] k a e = absurd (none-some a e)
map_get f (x ∷ xs) zero a e = (x, refl, same_Some (f x) a e)
map_get f (x ∷ xs) (suc k) a e = map_get f xs k a e

pub append_left : {A : Type 0} (xs ys : List A) (k : ℕ) (a : A) → slice_get xs k ≡ Some a → slice_get (xs ++ ys) k ≡ Some a
append_left [] ys k a e = absurd (none-some a e)
append_left (x ∷ xs) ys zero a e = e
append_left (x ∷ xs) ys (suc k) a e = append_left xs ys k a e

pub append_right : {A : Type 0} (xs ys : List A) (n k : ℕ) (a : A) → length xs ≡ n → slice_get ys k ≡ Some a → slice_get (xs ++ ys) (n + k) ≡ Some a
append_right [] ys n k a l e = subst (λ i. slice_get ys i ≡ Some a) (none n k l) e
  where
    none : (n k : ℕ) → 0 ≡ n → k ≡ n + k
    none n k l = omega (arith, l)
append_right (x ∷ xs) ys n k a l e = subst (λ i. slice_get (x ∷ (xs ++ ys)) i ≡ Some a) (one (length xs) n k l) (append_right xs ys (length xs) k a refl e)
  where
    one : (m n k : ℕ) → suc m ≡ n → suc (m + k) ≡ n + k
    one m n k l = omega (arith, l)

pub within_length : {A : Type 0} (xs : List A) (k : ℕ) (a : A) → slice_get xs k ≡ Some a → k < length xs
within_length [] k a e = absurd (none-some a e)
within_length (x ∷ xs) zero a e = omega arith
within_length (x ∷ xs) (suc k) a e = let h = within_length xs k a e in omega (h, arith)

-- an element of lists of one length: the r-th of the j-th
pub record Found {X A : Type 0} (f : X → List A) (n : ℕ) (xs : List X) (k : ℕ) (a : A) : Type 0 where
  pub j : ℕ
  pub r : ℕ
  pub x : X
  pub number : k ≡ j * n + r
  pub low : r < n
  pub list : slice_get xs j ≡ Some x
  pub element : slice_get (f x) r ≡ Some a

further : {X A : Type 0} (f : X → List A) (n : ℕ) (x : X) (xs : List X) (k i : ℕ) (a : A) → k ≡ n + i → Found f n xs i a → Found f n (x ∷ xs) k a
further f n x xs k i a e g = record {
  j = suc g.j;
  r = g.r;
  x = g.x;
  number = (let h = g.number in e ∙ ap (λ y. n + y) h ∙ one_more n g.j g.r);
  low = g.low;
  list = g.list;
  element = g.element;
}
  where
    one_more : (n j r : ℕ) → n + (j * n + r) ≡ suc j * n + r
    one_more n j r = omega arith

pub flat_get : {X A : Type 0} (f : X → List A) (n : ℕ) → ((x : X) → length (f x) ≡ n) → (xs : List X) (k : ℕ) (a : A) → slice_get (flat (map f xs)) k ≡ Some a → Found f n xs k a
flat_get f n same [] k a e = absurd (none-some a e)
flat_get f n same (x ∷ xs) k a e = elim (append_get (f x) (flat (map f xs)) k a e) [
  | inl h ↦ record { j = 0; r = k; x = x; number = omega arith; low = subst (λ m. k < m) (same x) (within_length (f x) k a h); list = refl; element = h }
  | inr h ↦ further f n x xs k h.0 a (subst (λ m. k ≡ m + h.0) (same x) h.1) (flat_get f n same xs h.0 a h.2)
]

pub flat_length : {X A : Type 0} (f : X → List A) (n : ℕ) → ((x : X) → length (f x) ≡ n) → (xs : List X) → length (flat (map f xs)) ≡ length xs * n
flat_length f n same [] = omega arith
flat_length f n same (x ∷ xs) = length-append (f x) (flat (map f xs)) ∙ added (length (f x)) n (length (flat (map f xs))) (length xs) (same x) (flat_length f n same xs)
  where
    added : (l n m k : ℕ) → l ≡ n → m ≡ k * n → l + m ≡ suc k * n
    added l n m k a b = omega arith

-- the r-th of the j-th
pub flat_at : {X A : Type 0} (f : X → List A) (n : ℕ) → ((x : X) → length (f x) ≡ n) → (xs : List X) (j r : ℕ) (x : X) (a : A) → slice_get xs j ≡ Some x → slice_get (f x) r ≡ Some a → slice_get (flat (map f xs)) (j * n + r) ≡ Some a
flat_at f n same [] j r x a e h = absurd (none-some x e)
flat_at f n same (y ∷ xs) zero r x a e h = append_left (f y) (flat (map f xs)) (0 * n + r) a (subst (λ i. slice_get (f y) i ≡ Some a) (first n r) (subst (λ z. slice_get (f z) r ≡ Some a) (sym (same_Some y x e)) h))
  where
    first : (n r : ℕ) → r ≡ 0 * n + r
    first n r = omega arith
flat_at f n same (y ∷ xs) (suc j) r x a e h = subst (λ i. slice_get (f y ++ flat (map f xs)) i ≡ Some a) (next n j r) (append_right (f y) (flat (map f xs)) n (j * n + r) a (same y) (flat_at f n same xs j r x a e h))
  where
    next : (n j r : ℕ) → n + (j * n + r) ≡ suc j * n + r
    next n j r = omega arith

-- ---- counting ----

pub counting_length : (n : ℕ) (i : ℤ) → length (counting n i) ≡ n
counting_length zero i = refl
counting_length (suc n) i = let h = counting_length n (i +ℤ pos 1) in omega (h, arith)

one_on : (i : ℤ) (r : ℕ) → (i +ℤ pos 1) +ℤ pos r ≡ i +ℤ pos (suc r)
one_on i r = +ℤ_assoc i (pos 1) (pos r) ∙ ap (λ y. i +ℤ pos y) (succ r)
  where
    succ : (r : ℕ) → 1 + r ≡ suc r
    succ r = omega arith

pub counting_get : (n : ℕ) (i : ℤ) (r : ℕ) (z : ℤ) → slice_get (counting n i) r ≡ Some z → z ≡ i +ℤ pos r
counting_get zero i r z e = absurd (none-some z e)
counting_get (suc n) i zero z e = sym (same_Some i z e) ∙ sym (+ℤ_idr i)
counting_get (suc n) i (suc r) z e = counting_get n (i +ℤ pos 1) r z e ∙ one_on i r

pub counting_at : (n : ℕ) (i : ℤ) (r : ℕ) → r < n → slice_get (counting n i) r ≡ Some (i +ℤ pos r)
counting_at zero i r low = absurd (omega (arith, low))
counting_at (suc n) i zero low = ap Some (sym (+ℤ_idr i))
counting_at (suc n) i (suc r) low = counting_at n (i +ℤ pos 1) r (omega (arith, low)) ∙ ap Some (one_on i r)
