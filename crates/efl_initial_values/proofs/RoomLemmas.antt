-- A place that is found lies in its variable.
use Rattle.std.proofs.Common.{◌≡◌, ◌≤◌, ◌<◌, ℕ, suc, ◌+◌, ◌*◌, ◌-◌, min, Bool, true, false, ◌&&◌, List, [], ◌∷◌, length, Option, Some, None, refl, sym, ap, subst, ◌∙◌, arith, if◌then◌else◌}
use Rattle.std.specs.Prelude.{option_to_list, ℤ, ◌-ℤ◌, unsigned_abs, int_le, int_lt, ◌==◌}
use Rattle.std.specs.Option.{option_map, option_and_then}
use Rattle.std.specs.Str.{bytes_eq}
use Rattle.efl_tree.specs.declared.declaration.EflBound.{EflBound}
use Rattle.efl_tree.specs.Syntax.{Text, EflExprs, NoExpr, AndExpr, EflPlace, Path, EflSteps, NoStep, Member, Overlay}
use Rattle.efl_scope.specs.DataTypes.{DataType, Scalar, Structured, Array, NoType, Members, NoMember, AndMember, low_of, many_from, is_from, elements, places, all_places, is_large}
use Rattle.efl_types.specs.Signatures.{many}
use Rattle.efl_types.specs.Types.{subscripted, in_members, member_type}
use Rattle.efl_types.specs.Presets.{constant, steps_to, plus, elements_before, places_before, before_member, member_offset, offset_behind, offset, Owner, Filled}
use Rattle.efl_scoped.specs.Told.{capped}
use Rattle.efl_initial_values.proofs.OffsetLemmas.{none_of, some_of}

-- ---- parts of what is found ----

record Sum (a b : Option ℕ) (i : ℕ) : Type 0 where
  first : ℕ
  second : ℕ
  one : a ≡ Some first
  two : b ≡ Some second
  all : i ≡ first + second

sum_of : (a b : Option ℕ) (i : ℕ) → plus a b ≡ Some i → Sum a b i
sum_of None b i is = absurd cc
sum_of (Some n) None i is = absurd cc
sum_of (Some n) (Some m) i is = record { first = n; second = m; one = refl; two = refl; all = cc }

record Times (o : Option ℕ) (m i : ℕ) : Type 0 where
  number : ℕ
  is : o ≡ Some number
  all : i ≡ number * m

times_of : (o : Option ℕ) (m i : ℕ) → option_map (λ n. n * m) o ≡ Some i → Times o m i
times_of None m i is = absurd cc
times_of (Some n) m i is = record { number = n; is = refl; all = cc }

-- ---- elements ----

steps_below : (b : EflBound) (z : ℤ) (s : ℕ) → steps_to b z ≡ Some s → s < many_from (low_of b) b.high
steps_below b z s is = within b.high (int_le (low_of b) z && is_from z b.high) refl is
  where
    each : (l h : ℤ) → int_le l z ≡ true → int_le z h ≡ true → unsigned_abs (z -ℤ l) < unsigned_abs (h -ℤ l) + 1
    each l h one two = grind (arith, one, two)

    forward : (l h : ℤ) → int_le l z ≡ true → int_le z h ≡ true → int_lt h l ≡ false
    forward l h one two = grind (arith, one, two)

    both : (a c : Bool) → (a && c) ≡ true → (a ≡ true) × (c ≡ true)
    both true true h = (refl, refl)
    both true false h = absurd cc
    both false c h = absurd cc

    within : (x : Option ℤ) → (r : Bool) → (int_le (low_of b) z && is_from z x) ≡ r → (if r then Some (unsigned_abs (z -ℤ low_of b)) else None) ≡ Some s → s < many_from (low_of b) x
    within x false e found = absurd cc
    within None true e found = absurd (let d = both (int_le (low_of b) z) false e in let f : false ≡ true = d.1 in cc)
    within (Some h) true e found =
        let in' = both (int_le (low_of b) z) (int_le z h) e in
        let low = low_of b in
        let same : unsigned_abs (z -ℤ low) ≡ s = (let q : Some (unsigned_abs (z -ℤ low)) ≡ Some s = found in cc) in
        subst (λ n. s < n) (sym (ap (λ r. if r then 0 else unsigned_abs (h -ℤ low) + 1) (forward low h in'.0 in'.1)))
        (subst (λ n. n < unsigned_abs (h -ℤ low) + 1) same (each low h in'.0 in'.1))

step_below : (b : EflBound) (o : Option ℤ) (s : ℕ) → option_and_then (steps_to b) o ≡ Some s → s < many_from (low_of b) b.high
step_below b None s is = absurd cc
step_below b (Some z) s is = steps_below b z s is

times_le : (a b m : ℕ) → a ≤ b → a * m ≤ b * m
times_le a b m l = grind (arith, l)

elements_room : (m : ℕ) (bs : List EflBound) (es : EflExprs) (i : ℕ) → elements_before m bs es ≡ Some i → i + m ≤ m * elements bs
elements_room m [] NoExpr i is = let none : 0 ≡ i = cc in omega (arith, none)
elements_room m [] (AndExpr e es) i is = absurd cc
elements_room m (b ∷ bs) NoExpr i is = absurd cc
elements_room m (b ∷ bs) (AndExpr e es) i is =
    let wide = many_from (low_of b) b.high in
    let parts = sum_of _ _ i is in
    let first = times_of _ m parts.first parts.one in
    total m wide (elements bs) i first.number parts.first parts.second (step_below b (constant e) first.number first.is) first.all parts.all (elements_room (m * wide) bs es parts.second parts.two)
  where
    total : (m w n i s p q : ℕ) → s < w → p ≡ s * m → i ≡ p + q → q + m * w ≤ (m * w) * n → i + m ≤ m * (w * n)
    total m w n i s p q below one all rest = let more = times_le (suc s) w m below in let t : (m * w) * n ≡ m * (w * n) = grind arith in grind (arith, one, all, rest, more, t)

places_room : (t : DataType) (es : EflExprs) (i : ℕ) → places_before t es ≡ Some i → i + places (subscripted t (many es)) ≤ places t
places_room t NoExpr i is = let none : 0 ≡ i = cc in omega (arith, none)
places_room (Array bs t) (AndExpr e es) i is =
    let found = times_of _ (places t) i is in
    element found.number (elements bs) (places t) (places (subscripted (Array bs t) (many (AndExpr e es)))) i found.all (elements_room 1 bs (AndExpr e es) found.number found.is) (within (many es))
  where
    within : (n : ℕ) → places (subscripted (Array bs t) (n + 1)) ≤ places t
    within n = subst (λ m. places (subscripted (Array bs t) m) ≤ places t) (next n) (by n (length bs == suc n) refl)
      where
        next : (n : ℕ) → suc n ≡ n + 1
        next n = omega arith

        least : (r : Bool) → places (if r then t else NoType) ≤ places t
        least true = omega arith
        least false = omega arith

        by : (n : ℕ) (r : Bool) → (length bs == suc n) ≡ r → places (subscripted (Array bs t) (suc n)) ≤ places t
        by n r e = subst (λ r. places (if r then t else NoType) ≤ places t) (sym e) (least r)

    element : (s n p q i : ℕ) → i ≡ s * p → s + 1 ≤ 1 * n → q ≤ p → i + q ≤ n * p
    element s n p q i all below few = let more = times_le (suc s) n p (omega (arith, below)) in grind (arith, all, few, more)
places_room (Scalar k) (AndExpr e es) i is = absurd cc
places_room (Structured ms) (AndExpr e es) i is = absurd cc
places_room NoType (AndExpr e es) i is = absurd cc

-- ---- members ----

before_room : (x : Text) (ms : Members) (i : ℕ) → before_member x ms ≡ Some i → i + places (in_members x ms) ≤ all_places ms
before_room x NoMember i is = absurd cc
before_room x (AndMember y t ms) i is = by (bytes_eq x y) refl (λ j found. before_room x ms j found)
  where
    some : (a b : ℕ) → Some a ≡ Some b → a ≡ b
    some a b is = cc

    by : (r : Bool) → bytes_eq x y ≡ r → ((j : ℕ) → before_member x ms ≡ Some j → j + places (in_members x ms) ≤ all_places ms) → i + places (in_members x (AndMember y t ms)) ≤ places t + all_places ms
    by true e rest =
        let here : Some 0 ≡ Some i = sym (ap (λ r. if r then Some 0 else plus (Some (places t)) (before_member x ms)) e) ∙ is in
        let none : 0 ≡ i = cc in
        let same : places (in_members x (AndMember y t ms)) ≡ places t = ap (λ r. places (if r then t else in_members x ms)) e in
        omega (arith, none, same)
    by false e rest =
        let parts = sum_of _ _ i (sym (ap (λ r. if r then Some 0 else plus (Some (places t)) (before_member x ms)) e) ∙ is) in
        let first : places t ≡ parts.first = some (places t) parts.first parts.one in
        let same : places (in_members x (AndMember y t ms)) ≡ places (in_members x ms) = ap (λ r. places (if r then t else in_members x ms)) e in
        let more = rest parts.second parts.two in let all = parts.all in
        omega (arith, first, same, more, all)

member_room : (x : Text) (t : DataType) (i : ℕ) → member_offset x t ≡ Some i → i + places (member_type x t) ≤ places t
member_room x (Structured ms) i is = before_room x ms i is
member_room x (Scalar k) i is = absurd cc
member_room x (Array bs t) i is = absurd cc
member_room x NoType i is = absurd cc

behind_room : (t : DataType) (steps : EflSteps) (i : ℕ) → offset_behind t steps ≡ Some i → i ≤ places t
behind_room t NoStep i is = let none : 0 ≡ i = cc in omega (arith, none)
behind_room t (Member x es steps) i is =
    let one = sum_of _ _ i is in
    let two = sum_of _ _ one.second one.two in
    let member = member_room x t one.first one.one in
    let element = places_room (member_type x t) es two.first two.one in
    let behind = behind_room (subscripted (member_type x t) (many es)) steps two.second two.two in
    let a = one.all in let b = two.all in
    omega (arith, member, element, behind, a, b)
behind_room t (Overlay x steps) i is = absurd cc

pub offset_room : (t : DataType) (p : EflPlace) (i : ℕ) → offset t p ≡ Some i → i ≤ places t
offset_room t (Path x es steps) i is =
    let parts = sum_of _ _ i is in
    let element = places_room t es parts.first parts.one in
    let behind = behind_room (subscripted t (many es)) steps parts.second parts.two in
    let all = parts.all in
    omega (arith, element, behind, all)

-- ---- the range that a preset fills ----

-- the range of a place
abbrev pub range_at : Owner → DataType → ℕ → ℕ → Filled
range_at o t all i = record { owner = o; first = i; many = min all (places t - i) }

abbrev pub ranges_at : Owner → DataType → ℕ → Option ℕ → List Filled
ranges_at o t all found = if is_large t then [] else option_to_list (option_map (range_at o t all) found)

pub large_none : (o : Owner) (t : DataType) (all : ℕ) (found : Option ℕ) → is_large t ≡ true → ranges_at o t all found ≡ []
large_none o t all found large = ap (λ b. if b then [] else option_to_list (option_map (range_at o t all) found)) large

pub filled_none : (o : Owner) (t : DataType) (all : ℕ) (found : Option ℕ) → is_large t ≡ false → None ≡ option_map capped found → ranges_at o t all found ≡ []
filled_none o t all found small none =
    ap (λ b. if b then [] else option_to_list (option_map (range_at o t all) found)) small ∙ ap (λ x. option_to_list (option_map (range_at o t all) x)) (none_of found none)

pub filled_some : (o : Owner) (t : DataType) (p : EflPlace) (all i places' values more : ℕ) → is_large t ≡ false → places' ≡ places t → places' ≤ 32767 → values ≡ capped all →
    Some i ≡ option_map capped (offset t p) → more ≡ min values (places' - i) → (ranges_at o t all (offset t p) ≡ record { owner = o; first = i; many = more } ∷ []) × (i + more < 65536)
filled_some o t p all i places' values more small is few counted found two =
    let exact = some_of (offset t p) i found in
    let j = exact.number in
    let room = offset_room t p j exact.is in
    let same = exact_place j i (places t) places' exact.same room is few in (
      ap (λ b. if b then [] else option_to_list (option_map (range_at o t all) (offset t p))) small
          ∙ ap (λ x. option_to_list (option_map (range_at o t all) x)) exact.is
          ∙ ap (λ n. record { owner = o; first = n; many = min all (places t - j) } ∷ []) (sym same)
          ∙ ap (λ n. record { owner = o; first = i; many = n } ∷ []) (sym (counts j i (places t) places' values all more same is few counted two)),
      short i j (places t) places' values more same room is few two,
    )
  where
    exact_place : (j i p q : ℕ) → i ≡ capped j → j ≤ p → q ≡ p → q ≤ 32767 → i ≡ j
    exact_place j i p q one two three four = omega (arith, one, two, three, four)

    short : (i j p q v m : ℕ) → i ≡ j → j ≤ p → q ≡ p → q ≤ 32767 → m ≡ min v (q - i) → i + m < 65536
    short i j p q v m one two three four five = omega (arith, one, two, three, four, five)

    counts : (j i p q v a m : ℕ) → i ≡ j → q ≡ p → q ≤ 32767 → v ≡ capped a → m ≡ min v (q - i) → m ≡ min a (p - j)
    counts j i p q v a m one two three four five = omega (arith, one, two, three, four, five)
