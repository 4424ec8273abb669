-- Intrinsic functions, elements, loads, stores and records go right where they are given what they need.
use Rattle.std.proofs.Common.{◌≡◌, cond, ℕ, zero, suc, ◌+◌, ◌*◌, nat_lt, nat_le, Bool, true, false, List, [], ◌∷◌, length, refl, sym, arith}
use Rattle.std.specs.Prelude.{ℤ, pos, negsuc, ◌-ℤ◌, int_le, int_lt, unsigned_abs, ◌&&◌}
use Rattle.std.proofs.lemmas.Bool.{true≢false, ltb-true, eqb-true}
use Rattle.ground.specs.declared.value.Kind.{Kind}
use Rattle.ground.specs.declared.value.Kind.TheVariants.{Integer, Logical}
use Rattle.ground.specs.Content.{Content, Nothing, Whole, Truth}
use Rattle.ground.specs.Arithmetic.{difference, remainder}
use Rattle.f66_tree.specs.World.{Store, put_in, Try, Yields, Traps, Fails, then_try}
use Rattle.f66_tree.specs.Evaluation.{whole, farthest, asked, distance}
use Rattle.f66_tree.specs.Statements.{times, extent}
use Rattle.f66_tree.proofs.Tries.{IsOfKind, TriesRightly}
use Rattle.stack_code.specs.StackMachine.{Spot, known, intrinsic_by, shift, load, store}
use Rattle.stack_code.specs.ValidCode.{takes}
use Rattle.stack_code.specs.Safety.{IsWithin}
use Rattle.stack_code.proofs.SafeLemmas.{IsInt, AllWhole, whole_right}

module _ (units : ℕ) where
  abbrev Wholes : List Content → Type 0
  Wholes vs = AllWhole units vs

  either : (t : Bool) (x y : Try Content) → TriesRightly IsInt x → TriesRightly IsInt y → TriesRightly IsInt (cond t x y)
  either true x y h k = h
  either false x y h k = k

  farthest_right : (beats : ℤ → ℤ → Bool) (a : ℤ) (vs : List Content) → Wholes vs → TriesRightly IsInt (farthest beats a vs)
  farthest_right beats a [] h = tt
  farthest_right beats a (Whole b ∷ vs) h = either (beats b a) (farthest beats b vs) (farthest beats a vs) (farthest_right beats b vs h) (farthest_right beats a vs h)
  farthest_right beats a (Truth b ∷ vs) h = absurd h
  farthest_right beats a (Nothing ∷ vs) h = absurd h

  excess_by : (t : Bool) (a b : ℤ) → TriesRightly IsInt (cond t (whole (difference a b)) (Yields (Whole (pos 0))))
  excess_by true a b = whole_right (difference a b)
  excess_by false a b = tt

  one_of : (vs : List Content) → Wholes vs → length vs ≡ 1 → (Q : List Content → Type 0) → ((a : ℤ) → Q (Whole a ∷ [])) → Q vs
  one_of [] h e Q go = absurd (omega arith)
  one_of (Whole a ∷ []) h e Q go = go a
  one_of (Whole a ∷ (x ∷ vs)) h e Q go = absurd (omega arith)
  one_of (Truth b ∷ vs) h e Q go = absurd h
  one_of (Nothing ∷ vs) h e Q go = absurd h

  two_of : (vs : List Content) → Wholes vs → length vs ≡ 2 → (Q : List Content → Type 0) → ((a b : ℤ) → Q (Whole a ∷ Whole b ∷ [])) → Q vs
  two_of [] h e Q go = absurd (omega arith)
  two_of (Whole a ∷ []) h e Q go = absurd (omega arith)
  two_of (Whole a ∷ (Whole b ∷ [])) h e Q go = go a b
  two_of (Whole a ∷ (Whole b ∷ (x ∷ vs))) h e Q go = absurd (omega arith)
  two_of (Whole a ∷ (Truth b ∷ vs)) h e Q go = absurd h
  two_of (Whole a ∷ (Nothing ∷ vs)) h e Q go = absurd h
  two_of (Truth b ∷ vs) h e Q go = absurd h
  two_of (Nothing ∷ vs) h e Q go = absurd h

  some_of : (vs : List Content) → Wholes vs → nat_le 2 (length vs) ≡ true → (Q : List Content → Type 0) → ((a : ℤ) (ws : List Content) → Wholes ws → Q (Whole a ∷ ws)) → Q vs
  some_of [] h e Q go = absurd (true≢false (sym e))
  some_of (Whole a ∷ vs) h e Q go = go a vs h
  some_of (Truth b ∷ vs) h e Q go = absurd h
  some_of (Nothing ∷ vs) h e Q go = absurd h

  pub known_right : (g : ℕ) (vs : List Content) → Wholes vs → takes g (length vs) ≡ true → TriesRightly IsInt (intrinsic_by (known g) vs)
  known_right zero vs h e = one_of vs h (eqb-true (length vs) 1 e) (λ ws. TriesRightly IsInt (intrinsic_by (known 0) ws)) (λ a. tt)
  known_right (suc zero) vs h e = two_of vs h (eqb-true (length vs) 2 e) (λ ws. TriesRightly IsInt (intrinsic_by (known 1) ws)) (λ a b. whole_right (remainder a b))
  known_right (suc (suc zero)) vs h e = two_of vs h (eqb-true (length vs) 2 e) (λ ws. TriesRightly IsInt (intrinsic_by (known 2) ws)) (λ a b. tt)
  known_right (suc (suc (suc zero))) vs h e = two_of vs h (eqb-true (length vs) 2 e) (λ ws. TriesRightly IsInt (intrinsic_by (known 3) ws)) (λ a b. excess_by (int_lt b a) a b)
  known_right (suc (suc (suc (suc zero)))) vs h e = some_of vs h e (λ ws. TriesRightly IsInt (intrinsic_by (known 4) ws)) (λ a ws all. farthest_right (λ b c. int_lt c b) a ws all)
  known_right (suc (suc (suc (suc (suc zero))))) vs h e = some_of vs h e (λ ws. TriesRightly IsInt (intrinsic_by (known 5) ws)) (λ a ws all. farthest_right (λ b c. int_lt b c) a ws all)
  known_right (suc (suc (suc (suc (suc (suc g)))))) vs h e = absurd (true≢false (sym e))

  -- ---- elements ----

  Any : ℕ → Type 0
  Any n = Unit {0}

  distance_by : (t : Bool) (x : ℕ → ℕ) (r : Try ℕ) → TriesRightly (λ _. Unit {0}) r → TriesRightly (λ _. Unit {0}) (cond t (then_try r (λ n. Yields (x n))) (Traps Rattle.ground.specs.declared.trap.Trap.TheVariants.Subscript))
  distance_by true x (Yields n) h = tt
  distance_by true x (Traps t) h = tt
  distance_by true x Fails h = h
  distance_by false x r h = tt

  pub distance_right : (m n : ℕ) (is' ds : List Content) → Wholes is' → Wholes ds → length is' ≡ n → length ds ≡ n → TriesRightly (λ _. Unit {0}) (distance m is' ds)
  distance_right m n [] [] hi hd li ld = tt
  distance_right m n [] (d ∷ ds) hi hd li ld = absurd (omega arith)
  distance_right m n (i ∷ is') [] hi hd li ld = absurd (omega arith)
  distance_right m zero (i ∷ is') (d ∷ ds) hi hd li ld = absurd (omega arith)
  distance_right m (suc n) (Whole i ∷ is') (Whole d ∷ ds) hi hd li ld =
      distance_by (int_le (pos 1) i && int_le i d) (λ k. unsigned_abs (i -ℤ pos 1) * m + k) (distance (m * unsigned_abs d) is' ds) (distance_right (m * unsigned_abs d) n is' ds hi hd (omega arith) (omega arith))
  distance_right m (suc n) (Whole i ∷ is') (Truth b ∷ ds) hi hd li ld = absurd hd
  distance_right m (suc n) (Whole i ∷ is') (Nothing ∷ ds) hi hd li ld = absurd hd
  distance_right m (suc n) (Truth b ∷ is') (d ∷ ds) hi hd li ld = absurd hi
  distance_right m (suc n) (Nothing ∷ is') (d ∷ ds) hi hd li ld = absurd hi

  shift_by : (p : Spot) (n : ℕ) (t : Bool) → nat_lt (p.position + n) p.size ≡ t → IsWithin units p → TriesRightly (IsWithin units) (cond t (Yields (record { first = p.first; size = p.size; position = p.position + n; fixed = p.fixed })) (Traps Rattle.ground.specs.declared.trap.Trap.TheVariants.Subscript))
  shift_by p n true e h = record { last = h.last; place = ltb-true (p.position + n) p.size e }
  shift_by p n false e h = tt

  pub shift_right : (p : Spot) (n : ℕ) → IsWithin units p → TriesRightly (IsWithin units) (shift p n)
  shift_right p n h = shift_by p n (nat_lt (p.position + n) p.size) refl h

  pub element_right : (t : Try ℕ) (p : Spot) → IsWithin units p → TriesRightly (λ _. Unit {0}) t → TriesRightly (IsWithin units) (then_try t (λ m. shift p m))
  element_right (Yields m) p h r = shift_right p m h
  element_right (Traps e) p h r = tt
  element_right Fails p h r = r

  times_right : (d : ℤ) (t : Try ℕ) → TriesRightly (λ _. Unit {0}) t → TriesRightly (λ _. Unit {0}) (times d t)
  times_right (pos zero) t h = tt
  times_right (pos (suc n)) (Yields m) h = tt
  times_right (pos (suc n)) (Traps e) h = tt
  times_right (pos (suc n)) Fails h = h
  times_right (negsuc n) t h = tt

  pub extent_right : (ds : List Content) → Wholes ds → TriesRightly (λ _. Unit {0}) (extent ds)
  extent_right [] h = tt
  extent_right (Whole d ∷ ds) h = times_right d (extent ds) (extent_right ds h)
  extent_right (Truth b ∷ ds) h = absurd h
  extent_right (Nothing ∷ ds) h = absurd h

-- ---- the store ----

asked_right : (k : Kind) (v : Content) → TriesRightly (IsOfKind k) (asked k v)
asked_right Integer (Whole z) = tt
asked_right Integer (Truth b) = tt
asked_right Integer Nothing = tt
asked_right Logical (Truth b) = tt
asked_right Logical (Whole z) = tt
asked_right Logical Nothing = tt

pub load_right : (k : Kind) (p : Spot) (st : Store) → TriesRightly (IsOfKind k) (load k p st)
load_right k p st = asked_right k (st (p.first + p.position))

store_by : (t : Bool) (st : Store) → TriesRightly (λ _. Unit {0}) (cond t (Traps Rattle.ground.specs.declared.trap.Trap.TheVariants.ValueArgument) (Yields st))
store_by true st = tt
store_by false st = tt

pub store_right : (p : Spot) (v : Content) (st : Store) → TriesRightly (λ _. Unit {0}) (store p v st)
store_right p v st = store_by p.fixed (put_in (p.first + p.position) v st)
