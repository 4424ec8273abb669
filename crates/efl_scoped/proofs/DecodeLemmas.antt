-- Types that share a number are the same, and those that are the same share it.
use Rattle.std.proofs.Common.{◌≡◌, ◌≤◌, ◌<◌, ◌+◌, ℕ, ℤ, suc, pos, unsigned_abs, int_le, nat_le, Bool, true, false, not, ◌&&◌, List, [], ◌∷◌, ◌++◌, length, flat_map, Option, Some, None, unwrap_or, refl, sym, ap, subst, ◌∙◌, arith}
use Rattle.std.specs.List.{list_all}
use Rattle.std.specs.Option.{option_map, option_and_then}
use Rattle.ground.specs.declared.value.Kind.TheVariants.{Integer, Logical}
use Rattle.efl_tree.specs.declared.declaration.EflBound.{EflBound}
use Rattle.efl_scope.specs.DataTypes.{DataType, Scalar, Structured, Array, NoType, Members, NoMember, AndMember, low_of, is_closed, is_from, is_sound, are_sound, is_large, same_upper, same_bounds, same_type, same_members}
use Rattle.efl_scoped.specs.Numbers.{Table, AreDistinct, AreAbove, along, number, numbers, sign_of, value_words, bound_words}
use Rattle.efl_scoped.proofs.MemberLemmas.{both_left, both_right}

-- ---- words from a beginning ----

-- the number behind words that came one by one, the last one first
abbrev reached : Table → ℕ → List ℕ → Option ℕ
reached g r [] = Some r
reached g r (w ∷ ws) = option_and_then (λ k. g k w) (reached g r ws)

abbrev turned : List ℕ → List ℕ → List ℕ
turned [] ws = ws
turned (w ∷ ws) before = turned ws (w ∷ before)

turned_length : (ws before : List ℕ) → length (turned ws before) ≡ length ws + length before
turned_length [] before = grind arith
turned_length (w ∷ ws) before = let e = turned_length ws (w ∷ before) in grind (arith, e)

turned_same : (ws vs before others : List ℕ) → length before ≡ length others → turned ws before ≡ turned vs others → (ws ≡ vs) × (before ≡ others)
turned_same [] [] before others long is = (refl, is)
turned_same [] (v ∷ vs) before others long is =
    let e = ap length is in let f = turned_length vs (v ∷ others) in absurd (grind (arith, e, f, long))
turned_same (w ∷ ws) [] before others long is =
    let e = ap length is in let f = turned_length ws (w ∷ before) in absurd (grind (arith, e, f, long))
turned_same (w ∷ ws) (v ∷ vs) before others long is =
    let rest = turned_same ws vs (w ∷ before) (v ∷ others) (ap (λ n. suc n) long) is in
    let heads : w ≡ v = ap (head_or 0) rest.1 in
    (ap (λ u. u ∷ ws) heads ∙ ap (λ us. v ∷ us) rest.0, ap rest_of rest.1)
  where
    head_or : ℕ → List ℕ → ℕ
    head_or d [] = d
    head_or d (x ∷ xs) = x

    rest_of : List ℕ → List ℕ
    rest_of [] = []
    rest_of (x ∷ xs) = xs

pub some_of : {X : Type 0} (x y : X) → Some x ≡ Some y → x ≡ y
some_of x y is = ap (λ o. unwrap_or o x) is

-- a pair's number, by its first number
step : (g : Table) (w n : ℕ) (o : Option ℕ) → option_and_then (λ k. g k w) o ≡ Some n → (k : ℕ) × (o ≡ Some k) × (g k w ≡ Some n)
step g w n None is = absurd cc
step g w n (Some k) is = (k, refl, is)

module _ (g : Table) (distinct : AreDistinct g) (above : AreAbove g) where
  reached_once : (r s n : ℕ) (ws vs : List ℕ) → r < 4 → s < 4 → reached g r ws ≡ Some n → reached g s vs ≡ Some n → (r ≡ s) × (ws ≡ vs)
  reached_once r s n [] [] low high one two = (some_of r n one ∙ sym (some_of s n two), refl)
  reached_once r s n [] (v ∷ vs) low high one two =
      let b = step g v n (reached g s vs) two in
      let e : r ≡ n = some_of r n one in
      let f : 4 ≤ n = above b.0 v n b.2 in
      absurd (omega (arith, low, e, f))
  reached_once r s n (w ∷ ws) [] low high one two =
      let a = step g w n (reached g r ws) one in
      let e : s ≡ n = some_of s n two in
      let f : 4 ≤ n = above a.0 w n a.2 in
      absurd (omega (arith, high, e, f))
  reached_once r s n (w ∷ ws) (v ∷ vs) low high one two =
      let a = step g w n (reached g r ws) one in
      let b = step g v n (reached g s vs) two in
      let same = distinct a.0 w b.0 v n a.2 b.2 in
      let rest = reached_once r s a.0 ws vs low high a.1 (b.1 ∙ ap (λ k. Some k) (sym same.0)) in
      (rest.0, ap (λ x. x ∷ ws) same.1 ∙ ap (λ us. v ∷ us) rest.1)

  along_step : (w : ℕ) (ws : List ℕ) (n : ℕ) (o : Option ℕ) → option_and_then (along g ws) o ≡ Some n → (k : ℕ) × (o ≡ Some k) × (along g ws k ≡ Some n)
  along_step w ws n None is = absurd cc
  along_step w ws n (Some k) is = (k, refl, is)

  along_reached : (r k n : ℕ) (ws before : List ℕ) → reached g r before ≡ Some k → along g ws k ≡ Some n → reached g r (turned ws before) ≡ Some n
  along_reached r k n [] before was is = was ∙ is
  along_reached r k n (w ∷ ws) before was is =
      let s = along_step w ws n (g k w) is in
      along_reached r s.0 n ws (w ∷ before) (ap (option_and_then (λ j. g j w)) was ∙ s.1) s.2

  -- words from a beginning to a number
  words_once : (r s n : ℕ) (ws vs : List ℕ) → r < 4 → s < 4 → along g ws r ≡ Some n → along g vs s ≡ Some n → (r ≡ s) × (ws ≡ vs)
  words_once r s n ws vs low high one two =
      let both = reached_once r s n (turned ws []) (turned vs []) low high (along_reached r r n ws [] refl one) (along_reached s s n vs [] refl two) in
      (both.0, (turned_same ws vs [] [] refl both.1).0)

-- ---- the words of types ----

abbrev root_of : DataType → ℕ
root_of (Scalar Integer) = 0
root_of (Scalar Logical) = 1
root_of (Structured ms) = 2
root_of (Array bs t) = 3
root_of NoType = 0

abbrev words_of : Table → DataType → Option (List ℕ)
words_of g (Scalar k) = Some []
words_of g (Structured ms) = numbers g ms
words_of g (Array bs t) = option_map (λ w. w ∷ flat_map bound_words bs) (number g t)
words_of g NoType = None

root_low : (t : DataType) → root_of t < 4
root_low (Scalar Integer) = grind arith
root_low (Scalar Logical) = grind arith
root_low (Structured ms) = grind arith
root_low (Array bs t) = grind arith
root_low NoType = grind arith

number_is : (g : Table) (t : DataType) → number g t ≡ option_and_then (λ ws. along g ws (root_of t)) (words_of g t)
number_is g (Scalar Integer) = refl
number_is g (Scalar Logical) = refl
number_is g (Structured ms) = refl
number_is g NoType = refl
number_is g (Array bs t) = each (number g t)
  where
    each : (o : Option ℕ) → option_and_then (λ w. along g (w ∷ flat_map bound_words bs) 3) o
        ≡ option_and_then (λ ws. along g ws 3) (option_map (λ w. w ∷ flat_map bound_words bs) o)
    each None = refl
    each (Some w) = refl

-- ---- the words of bounds ----

value_once : (y z : ℤ) → sign_of y ≡ sign_of z → unsigned_abs y ≡ unsigned_abs z → y ≡ z
value_once y z sign size = grind (arith, sign, size)

le_both : (y z : ℤ) → (int_le y z && int_le z y) ≡ true → y ≡ z
le_both y z is = grind (arith, is)

le_self : (z : ℤ) → (int_le z z && int_le z z) ≡ true
le_self z = grind arith

and_both : (a b : Bool) → a ≡ true → b ≡ true → (a && b) ≡ true
and_both a b one two = ap (λ c. c && b) one ∙ two

le_same : (y z : ℤ) → y ≡ z → (int_le y z && int_le z y) ≡ true
le_same y z is = subst (λ x. (int_le y x && int_le x y) ≡ true) is (le_self y)

bound_once : (l m : ℤ) (o p : Option ℤ) → is_from l o ≡ true → is_from m p ≡ true → l ≡ m → unwrap_or o (pos 0) ≡ unwrap_or p (pos 0) → ((int_le l m && int_le m l) && same_upper o p) ≡ true
bound_once l m None p closed other low high = absurd cc
bound_once l m (Some h) None closed other low high = absurd cc
bound_once l m (Some h) (Some k) closed other low high = and_both (int_le l m && int_le m l) (int_le h k && int_le k h) (le_same l m low) (le_same h k high)

abbrev head_of : List ℕ → ℕ
head_of [] = 0
head_of (x ∷ xs) = x

abbrev tail_of : List ℕ → List ℕ
tail_of [] = []
tail_of (x ∷ xs) = xs

bounds_once : (bs cs : List EflBound) → flat_map bound_words bs ≡ flat_map bound_words cs → list_all is_closed bs ≡ true → list_all is_closed cs ≡ true → same_bounds bs cs ≡ true
bounds_once [] [] is closed other = refl
bounds_once [] (c ∷ cs) is closed other = absurd cc
bounds_once (b ∷ bs) [] is closed other = absurd cc
bounds_once (b ∷ bs) (c ∷ cs) is closed other =
    let low : low_of b ≡ low_of c = value_once (low_of b) (low_of c) (ap head_of is) (ap (λ xs. head_of (tail_of xs)) is) in
    let high : unwrap_or b.high (pos 0) ≡ unwrap_or c.high (pos 0) =
    value_once (unwrap_or b.high (pos 0)) (unwrap_or c.high (pos 0)) (ap (λ xs. head_of (tail_of (tail_of xs))) is) (ap (λ xs. head_of (tail_of (tail_of (tail_of xs)))) is) in
    and_both ((int_le (low_of b) (low_of c) && int_le (low_of c) (low_of b)) && same_upper b.high c.high) (same_bounds bs cs)
    (bound_once (low_of b) (low_of c) b.high c.high (both_left (is_closed b) (list_all is_closed bs) closed) (both_left (is_closed c) (list_all is_closed cs) other) low high)
    (bounds_once bs cs (ap (λ xs. tail_of (tail_of (tail_of (tail_of xs)))) is) (both_right (is_closed b) (list_all is_closed bs) closed) (both_right (is_closed c) (list_all is_closed cs) other))

bound_shares : (l m : ℤ) (o p : Option ℤ) → ((int_le l m && int_le m l) && same_upper o p) ≡ true → value_words l ++ value_words (unwrap_or o (pos 0)) ≡ value_words m ++ value_words (unwrap_or p (pos 0))
bound_shares l m None None is = ap (λ x. value_words x ++ value_words (pos 0)) (le_both l m (both_left (int_le l m && int_le m l) true is))
bound_shares l m None (Some k) is = absurd (let e : false ≡ true = both_right (int_le l m && int_le m l) false is in cc)
bound_shares l m (Some h) None is = absurd (let e : false ≡ true = both_right (int_le l m && int_le m l) false is in cc)
bound_shares l m (Some h) (Some k) is =
    ap (λ x. value_words x ++ value_words h) (le_both l m (both_left (int_le l m && int_le m l) (int_le h k && int_le k h) is))
    ∙ ap (λ x. value_words m ++ value_words x) (le_both h k (both_right (int_le l m && int_le m l) (int_le h k && int_le k h) is))

bounds_share : (bs cs : List EflBound) → same_bounds bs cs ≡ true → flat_map bound_words bs ≡ flat_map bound_words cs
bounds_share [] [] is = refl
bounds_share [] (c ∷ cs) is = absurd cc
bounds_share (b ∷ bs) [] is = absurd cc
bounds_share (b ∷ bs) (c ∷ cs) is =
    ap (λ ws. ws ++ flat_map bound_words bs) (bound_shares (low_of b) (low_of c) b.high c.high (both_left ((int_le (low_of b) (low_of c) && int_le (low_of c) (low_of b)) && same_upper b.high c.high) (same_bounds bs cs) is))
    ∙ ap (λ ws. bound_words c ++ ws) (bounds_share bs cs (both_right ((int_le (low_of b) (low_of c) && int_le (low_of c) (low_of b)) && same_upper b.high c.high) (same_bounds bs cs) is))

-- ---- types that are the same share their number ----

mutual
  pub type_shares : (g : Table) (t u : DataType) → same_type t u ≡ true → number g t ≡ number g u
  type_shares g (Scalar Integer) (Scalar Integer) is = refl
  type_shares g (Scalar Logical) (Scalar Logical) is = refl
  type_shares g (Structured ms) (Structured ns) is = ap (option_and_then (λ ws. along g ws 2)) (members_share g ms ns is)
  type_shares g (Array bs t) (Array cs u) is =
      ap (option_and_then (λ w. along g (w ∷ flat_map bound_words bs) 3)) (type_shares g t u (both_right (same_bounds bs cs) (same_type t u) is))
      ∙ ap (λ ws. option_and_then (λ w. along g (w ∷ ws) 3) (number g u)) (bounds_share bs cs (both_left (same_bounds bs cs) (same_type t u) is))
  type_shares g _ _ is = absurd cc

  members_share : (g : Table) (ms ns : Members) → same_members ms ns ≡ true → numbers g ms ≡ numbers g ns
  members_share g NoMember NoMember is = refl
  members_share g (AndMember x t ms) (AndMember y u ns) is =
      ap (option_and_then (λ w. option_map (λ ws. w ∷ ws) (numbers g ms))) (type_shares g t u (both_left (same_type t u) (same_members ms ns) is))
      ∙ ap (λ o. option_and_then (λ w. option_map (λ ws. w ∷ ws) o) (number g u)) (members_share g ms ns (both_right (same_type t u) (same_members ms ns) is))
  members_share g NoMember (AndMember y u ns) is = absurd cc
  members_share g (AndMember x t ms) NoMember is = absurd cc

-- ---- types that share their number are the same ----

opened : (g : Table) (r n : ℕ) (o : Option (List ℕ)) → option_and_then (λ ws. along g ws r) o ≡ Some n → (ws : List ℕ) × (o ≡ Some ws) × (along g ws r ≡ Some n)
opened g r n None is = absurd cc
opened g r n (Some ws) is = (ws, refl, is)

opened_array : (bs : List EflBound) (ws : List ℕ) (o : Option ℕ) → option_map (λ w. w ∷ flat_map bound_words bs) o ≡ Some ws → (w : ℕ) × (o ≡ Some w) × (w ∷ flat_map bound_words bs ≡ ws)
opened_array bs ws None is = absurd cc
opened_array bs ws (Some w) is = (w, refl, some_of (w ∷ flat_map bound_words bs) ws is)

opened_member : (ws : List ℕ) (o : Option ℕ) (p : Option (List ℕ)) → option_and_then (λ w. option_map (λ vs. w ∷ vs) p) o ≡ Some ws →
    (w : ℕ) × ((vs : List ℕ) × (o ≡ Some w) × (p ≡ Some vs) × (w ∷ vs ≡ ws))
opened_member ws None p is = absurd cc
opened_member ws (Some w) None is = absurd cc
opened_member ws (Some w) (Some vs) is = (w, (vs, refl, refl, some_of (w ∷ vs) ws is))

module _ (g : Table) (distinct : AreDistinct g) (above : AreAbove g) where
  alike : (t u : DataType) (n : ℕ) → number g t ≡ Some n → number g u ≡ Some n → (root_of t ≡ root_of u) × ((ws : List ℕ) × (words_of g t ≡ Some ws) × (words_of g u ≡ Some ws))
  alike t u n one two =
      let a = opened g (root_of t) n (words_of g t) (sym (number_is g t) ∙ one) in
      let b = opened g (root_of u) n (words_of g u) (sym (number_is g u) ∙ two) in
      let both = words_once g distinct above (root_of t) (root_of u) n a.0 b.0 (root_low t) (root_low u) a.2 b.2 in
      (both.0, (a.0, a.1, b.1 ∙ ap (λ ws. Some ws) (sym both.1)))

  mutual
    pub type_once : (t u : DataType) (n : ℕ) → is_sound t ≡ true → is_sound u ≡ true → number g t ≡ Some n → number g u ≡ Some n → same_type t u ≡ true
    type_once (Scalar Integer) (Scalar Integer) n s r one two = refl
    type_once (Scalar Logical) (Scalar Logical) n s r one two = refl
    type_once (Structured ms) (Structured ns) n s r one two =
        let both = alike (Structured ms) (Structured ns) n one two in members_once ms ns both.1.0 s r both.1.1 both.1.2
    type_once (Array bs t) (Array cs u) n s r one two =
        let both = alike (Array bs t) (Array cs u) n one two in
        let a = opened_array bs both.1.0 (number g t) both.1.1 in
        let b = opened_array cs both.1.0 (number g u) both.1.2 in
        let same : a.0 ∷ flat_map bound_words bs ≡ b.0 ∷ flat_map bound_words cs = a.2 ∙ sym b.2 in
        and_both (same_bounds bs cs) (same_type t u)
        (bounds_once bs cs (ap tail_of same)
        (both_right (nat_le (length bs) 7) (list_all is_closed bs) (both_left (nat_le (length bs) 7 && list_all is_closed bs) (is_sound t) s))
        (both_right (nat_le (length cs) 7) (list_all is_closed cs) (both_left (nat_le (length cs) 7 && list_all is_closed cs) (is_sound u) r)))
        (type_once t u a.0 (both_right (nat_le (length bs) 7 && list_all is_closed bs) (is_sound t) s) (both_right (nat_le (length cs) 7 && list_all is_closed cs) (is_sound u) r) a.1
        (b.1 ∙ ap (λ w. Some w) (sym (ap head_of same))))
    type_once NoType u n s r one two = absurd cc
    type_once (Scalar k) NoType n s r one two = absurd cc
    type_once (Structured ms) NoType n s r one two = absurd cc
    type_once (Array bs t) NoType n s r one two = absurd cc
    type_once (Scalar Integer) (Scalar Logical) n s r one two = absurd (let e = (alike (Scalar Integer) (Scalar Logical) n one two).0 in omega (arith, e))
    type_once (Scalar Logical) (Scalar Integer) n s r one two = absurd (let e = (alike (Scalar Logical) (Scalar Integer) n one two).0 in omega (arith, e))
    type_once (Scalar Integer) (Structured ms) n s r one two = absurd (let e = (alike (Scalar Integer) (Structured ms) n one two).0 in omega (arith, e))
    type_once (Scalar Logical) (Structured ms) n s r one two = absurd (let e = (alike (Scalar Logical) (Structured ms) n one two).0 in omega (arith, e))
    type_once (Scalar Integer) (Array bs t) n s r one two = absurd (let e = (alike (Scalar Integer) (Array bs t) n one two).0 in omega (arith, e))
    type_once (Scalar Logical) (Array bs t) n s r one two = absurd (let e = (alike (Scalar Logical) (Array bs t) n one two).0 in omega (arith, e))
    type_once (Structured ms) (Scalar Integer) n s r one two = absurd (let e = (alike (Structured ms) (Scalar Integer) n one two).0 in omega (arith, e))
    type_once (Structured ms) (Scalar Logical) n s r one two = absurd (let e = (alike (Structured ms) (Scalar Logical) n one two).0 in omega (arith, e))
    type_once (Array bs t) (Scalar Integer) n s r one two = absurd (let e = (alike (Array bs t) (Scalar Integer) n one two).0 in omega (arith, e))
    type_once (Array bs t) (Scalar Logical) n s r one two = absurd (let e = (alike (Array bs t) (Scalar Logical) n one two).0 in omega (arith, e))
    type_once (Structured ms) (Array bs t) n s r one two = absurd (let e = (alike (Structured ms) (Array bs t) n one two).0 in omega (arith, e))
    type_once (Array bs t) (Structured ms) n s r one two = absurd (let e = (alike (Array bs t) (Structured ms) n one two).0 in omega (arith, e))

    members_once : (ms ns : Members) (ws : List ℕ) → are_sound ms ≡ true → are_sound ns ≡ true → numbers g ms ≡ Some ws → numbers g ns ≡ Some ws → same_members ms ns ≡ true
    members_once NoMember NoMember ws s r one two = refl
    members_once NoMember (AndMember y u ns) ws s r one two =
        let b = opened_member ws (number g u) (numbers g ns) two in let e : b.0 ∷ b.1.0 ≡ [] = b.1.3 ∙ sym (some_of [] ws one) in absurd (let l = ap length e in grind (arith, l))
    members_once (AndMember x t ms) NoMember ws s r one two =
        let b = opened_member ws (number g t) (numbers g ms) one in let e : b.0 ∷ b.1.0 ≡ [] = b.1.3 ∙ sym (some_of [] ws two) in absurd (let l = ap length e in grind (arith, l))
    members_once (AndMember x t ms) (AndMember y u ns) ws s r one two =
        let a = opened_member ws (number g t) (numbers g ms) one in
        let b = opened_member ws (number g u) (numbers g ns) two in
        let same : a.0 ∷ a.1.0 ≡ b.0 ∷ b.1.0 = a.1.3 ∙ sym b.1.3 in
        let st = both_left (is_sound t && not (is_large t)) (are_sound ms) s in
        let su = both_left (is_sound u && not (is_large u)) (are_sound ns) r in
        and_both (same_type t u) (same_members ms ns)
        (type_once t u a.0 (both_left (is_sound t) (not (is_large t)) st) (both_left (is_sound u) (not (is_large u)) su) a.1.1 (b.1.1 ∙ ap (λ w. Some w) (sym (ap head_of same))))
        (members_once ms ns a.1.0 (both_right (is_sound t && not (is_large t)) (are_sound ms) s) (both_right (is_sound u && not (is_large u)) (are_sound ns) r) a.1.2
        (b.1.2 ∙ ap (λ vs. Some vs) (sym (ap tail_of same))))
