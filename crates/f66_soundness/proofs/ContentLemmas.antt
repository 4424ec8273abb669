-- Operations on contents of the types that they ask for do not fail.
use Rattle.std.proofs.Common.{◌≡◌, ◌+◌, ℕ, zero, suc, Bool, true, false, List, [], ◌∷◌, length, Result, Ok, Err, refl, ◌∙◌, arith}
use Rattle.std.specs.Prelude.{ℤ, ◌≤◌, int_le, int_lt, nat_lt, unsigned_abs, ◌-ℤ◌, pos, ◌*◌, ◌&&◌, if◌then◌else◌, ⊤}
use Rattle.std.proofs.lemmas.Bool.{eqb-true, leb-true}
use Rattle.ground.specs.declared.trap.Trap.{Trap}
use Rattle.ground.specs.declared.trap.Trap.TheVariants.{Subscript}
use Rattle.ground.specs.declared.value.Kind.{Kind}
use Rattle.ground.specs.declared.value.Kind.TheVariants.{Integer, Logical}
use Rattle.ground.specs.Content.{Content, Whole, Truth}
use Rattle.ground.specs.Arithmetic.{sum, difference, product, quotient, remainder, power}
use Rattle.f66_tree.specs.declared.expression.Operator.{Operator}
use Rattle.f66_tree.specs.declared.expression.Operator.TheVariants.{Add, Sub, Mul, Div, Power, And, Or}
use Rattle.f66_tree.specs.World.{Yields, Traps, then_try}
use Rattle.f66_tree.specs.Units.{sizes_of, places_of, Spot, Held, Lent, Linkage}
use Rattle.f66_tree.specs.Evaluation.{whole, on_whole, on_truth, operate, same_whole, opposite, denied, truth_in, Intrinsic, Iabs, Mod, Isign, Idim, Max0, Min0, farthest, excess, intrinsic, asked, distance, moved}
use Rattle.f66_tree.proofs.Tries.{IsOfKind, TriesRightly, then_rightly, if_both}
use Rattle.f66_names.specs.Sorts.{arity, takes_many}
use Rattle.f66_names.specs.Kinds.{is_connective, operand, outcome}

abbrev pub AllWhole : List Content → Type 0
AllWhole [] = ⊤
AllWhole (v ∷ vs) = IsOfKind Integer v × AllWhole vs

-- so many integers
pub record AreWhole (n : ℕ) (vs : List Content) : Type 0 where
  pub number : length vs ≡ n
  pub whole : AllWhole vs

pub asked_rightly : (k : Kind) (v : Content) → TriesRightly (IsOfKind k) (asked k v)
asked_rightly Integer (Whole z) = tt
asked_rightly Logical (Truth b) = tt
asked_rightly _ _ = tt

whole_rightly : (r : Result ℤ Trap) → TriesRightly (IsOfKind Integer) (whole r)
whole_rightly (Ok z) = tt
whole_rightly (Err t) = tt

on_whole_rightly : (op : Operator) → is_connective op ≡ false → (a b : ℤ) → TriesRightly (IsOfKind (outcome op)) (on_whole op a b)
on_whole_rightly Add e a b = whole_rightly (sum a b)
on_whole_rightly Sub e a b = whole_rightly (difference a b)
on_whole_rightly Mul e a b = whole_rightly (product a b)
on_whole_rightly Div e a b = whole_rightly (quotient a b)
on_whole_rightly Power e a b = whole_rightly (power a b)
on_whole_rightly And e a b = let q : ⊥ = cc in absurd q
on_whole_rightly Or e a b = let q : ⊥ = cc in absurd q
on_whole_rightly _ e a b = tt

on_truth_rightly : (op : Operator) → is_connective op ≡ true → (a b : Bool) → TriesRightly (IsOfKind (outcome op)) (on_truth op a b)
on_truth_rightly And e a b = tt
on_truth_rightly Or e a b = tt
on_truth_rightly _ e a b = let q : ⊥ = cc in absurd q

-- an operator with two values of the type that it asks for
pub operate_rightly : (op : Operator) (x y : Content) → IsOfKind (operand op) x → IsOfKind (operand op) y → TriesRightly (IsOfKind (outcome op)) (operate op x y)
operate_rightly op x y h k = by_values (is_connective op) refl x y h k
  where
    by_values : (b : Bool) → is_connective op ≡ b → (v w : Content) → IsOfKind (if b then Logical else Integer) v → IsOfKind (if b then Logical else Integer) w → TriesRightly (IsOfKind (outcome op)) (operate op v w)
    by_values false e (Whole a) (Whole b) p q = on_whole_rightly op e a b
    by_values false e (Whole a) w p q = absurd q
    by_values false e v w p q = absurd p
    by_values true e (Truth a) (Truth b) p q = on_truth_rightly op e a b
    by_values true e (Truth a) w p q = absurd q
    by_values true e v w p q = absurd p

pub same_rightly : (v : Content) → IsOfKind Integer v → TriesRightly (IsOfKind Integer) (same_whole v)
same_rightly (Whole z) h = tt
same_rightly _ h = absurd h

pub opposite_rightly : (v : Content) → IsOfKind Integer v → TriesRightly (IsOfKind Integer) (opposite v)
opposite_rightly (Whole z) h = tt
opposite_rightly _ h = absurd h

pub denied_rightly : (v : Content) → IsOfKind Logical v → TriesRightly (IsOfKind Logical) (denied v)
denied_rightly (Truth b) h = tt
denied_rightly _ h = absurd h

pub truth_rightly : (v : Content) → IsOfKind Logical v → TriesRightly (λ b. ⊤) (truth_in v)
truth_rightly (Truth b) h = tt
truth_rightly _ h = absurd h

-- ---- the intrinsic functions ----

farthest_rightly : (beats : ℤ → ℤ → Bool) (a : ℤ) (vs : List Content) → AllWhole vs → TriesRightly (IsOfKind Integer) (farthest beats a vs)
farthest_rightly beats a [] h = tt
farthest_rightly beats a (Whole b ∷ bs) h = if_both (TriesRightly (IsOfKind Integer)) (beats b a) (farthest beats b bs) (farthest beats a bs) (farthest_rightly beats b bs h.1) (farthest_rightly beats a bs h.1)
farthest_rightly beats a (v ∷ vs) h = absurd h.0

excess_rightly : (a b : ℤ) → TriesRightly (IsOfKind Integer) (excess a b)
excess_rightly a b = if_both (TriesRightly (IsOfKind Integer)) (int_lt b a) (whole (difference a b)) (Yields (Whole (pos 0))) (whole_rightly (difference a b)) tt

one_rightly : (vs : List Content) → length vs ≡ 1 → AllWhole vs → TriesRightly (IsOfKind Integer) (intrinsic Iabs vs)
one_rightly [] e h = absurd (omega arith)
one_rightly (Whole a ∷ []) e h = tt
one_rightly (v ∷ u ∷ vs) e h = absurd (omega arith)
one_rightly (v ∷ []) e h = absurd h.0

-- of two integers
abbrev OfTwo : Intrinsic → Type 0
OfTwo g = (a b : ℤ) → TriesRightly (IsOfKind Integer) (intrinsic g (Whole a ∷ Whole b ∷ []))

two_rightly : (g : Intrinsic) → OfTwo g → (vs : List Content) → length vs ≡ 2 → AllWhole vs → TriesRightly (IsOfKind Integer) (intrinsic g vs)
two_rightly g of_two [] e h = absurd (omega arith)
two_rightly g of_two (v ∷ []) e h = absurd (omega arith)
two_rightly g of_two (v ∷ u ∷ t ∷ vs) e h = absurd (omega arith)
two_rightly g of_two (Whole a ∷ Whole b ∷ []) e h = of_two a b
two_rightly g of_two (Whole a ∷ v ∷ []) e h = absurd h.1.0
two_rightly g of_two (v ∷ u ∷ []) e h = absurd h.0

most_rightly : (vs : List Content) → 2 ≤ length vs → AllWhole vs → TriesRightly (IsOfKind Integer) (intrinsic Max0 vs)
most_rightly [] e h = absurd (omega arith)
most_rightly (Whole a ∷ vs) e h = farthest_rightly _ a vs h.1
most_rightly (v ∷ vs) e h = absurd h.0

least_rightly : (vs : List Content) → 2 ≤ length vs → AllWhole vs → TriesRightly (IsOfKind Integer) (intrinsic Min0 vs)
least_rightly [] e h = absurd (omega arith)
least_rightly (Whole a ∷ vs) e h = farthest_rightly _ a vs h.1
least_rightly (v ∷ vs) e h = absurd h.0

-- an intrinsic function of as many integers as it takes
pub intrinsic_rightly : (g : Intrinsic) (n : ℕ) (vs : List Content) → takes_many (arity g) n ≡ true → AreWhole n vs → TriesRightly (IsOfKind Integer) (intrinsic g vs)
intrinsic_rightly Iabs n vs e h = one_rightly vs (h.number ∙ eqb-true n 1 e) h.whole
intrinsic_rightly Mod n vs e h = two_rightly Mod (λ a b. whole_rightly (remainder a b)) vs (h.number ∙ eqb-true n 2 e) h.whole
intrinsic_rightly Isign n vs e h = two_rightly Isign (λ a b. tt) vs (h.number ∙ eqb-true n 2 e) h.whole
intrinsic_rightly Idim n vs e h = two_rightly Idim (λ a b. excess_rightly a b) vs (h.number ∙ eqb-true n 2 e) h.whole
intrinsic_rightly Max0 n vs e h = let q : 2 ≤ n = leb-true 2 n e in let m = h.number in most_rightly vs (omega arith) h.whole
intrinsic_rightly Min0 n vs e h = let q : 2 ≤ n = leb-true 2 n e in let m = h.number in least_rightly vs (omega arith) h.whole

-- ---- elements ----

-- as many integers as dimensions
pub distance_rightly : (m : ℕ) (is' ds : List Content) → length is' ≡ length ds → AllWhole is' → AllWhole ds → TriesRightly (λ n. ⊤) (distance m is' ds)
distance_rightly m [] [] e h k = tt
distance_rightly m [] (d ∷ ds) e h k = absurd (omega arith)
distance_rightly m (i ∷ is') [] e h k = absurd (omega arith)
distance_rightly m (Whole i ∷ is') (Whole d ∷ ds) e h k =
    if_both (TriesRightly (λ n. ⊤)) (int_le (pos 1) i && int_le i d) (then_try (distance (m * unsigned_abs d) is' ds) (λ n. Yields (unsigned_abs (i -ℤ pos 1) * m + n))) (Traps Subscript)
    (then_rightly (λ n. ⊤) (λ n. ⊤) (distance (m * unsigned_abs d) is' ds) (λ n. Yields (unsigned_abs (i -ℤ pos 1) * m + n)) (distance_rightly (m * unsigned_abs d) is' ds (omega arith) h.1 k.1) (λ n _. tt)) tt
distance_rightly m (Whole i ∷ is') (d ∷ ds) e h k = absurd k.0
distance_rightly m (i ∷ is') (d ∷ ds) e h k = absurd h.0

pub moved_rightly : (l : Linkage) (p : Spot) (n : ℕ) → TriesRightly (λ q. ⊤) (moved l p n)
moved_rightly l (Held u x o) n = if_both (TriesRightly (λ q. ⊤)) (nat_lt (o + n) (places_of (sizes_of x (l.context u).notes))) (Yields (Held u x (o + n))) (Traps Subscript) tt tt
moved_rightly l (Lent c) zero = tt
moved_rightly l (Lent c) (suc n) = tt
