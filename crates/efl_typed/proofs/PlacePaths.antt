-- A place to which the checks give the number k is the k-th of its variable's paths.
use Rattle.std.proofs.Common.{◌≡◌, ℕ, zero, suc, ◌+◌, ◌*◌, ◌<◌, Bool, true, false, not, ◌&&◌, ◌||◌, nat_le, List, [], ◌∷◌, ◌++◌, length, map, Option, Some, None, is_some, refl, sym, ap, ap₂, subst, ◌∙◌, true≢false, append_assoc, append-nil, arith}
use Rattle.std.specs.Prelude.{ℤ, pos, ◌+ℤ◌, ◌-ℤ◌, unsigned_abs, int_le, option_map, option_and_then, if◌then◌else◌}
use Rattle.std.specs.List.{slice_get, list_all}
use Rattle.std.specs.Str.{bytes_eq}
use Rattle.std.proofs.lemmas.Bool.{and_parts, and_from, eq-eqb}
use Rattle.std.proofs.lemmas.List.{length-map}
use Rattle.std.proofs.lemmas.Option.{none-some, same_Some, slice_get-map, cond_some, option_and_then_some}
use Rattle.ground.specs.declared.value.Kind.{Kind}
use Rattle.efl_tree.specs.declared.declaration.EflBound.{EflBound}
use Rattle.efl_tree.specs.Syntax.{Text, EflExpr, EflExprs, NoExpr, AndExpr, EflPlace, EflSteps, NoStep, Member, Overlay}
use Rattle.efl_tree.specs.Syntax as efl
use Rattle.efl_scope.specs.DataTypes.{DataType, Scalar, Structured, Array, NoType, Members, NoMember, AndMember, low_of, is_from, is_closed, many_from, elements, places, all_places, is_large, is_sound, are_sound}
use Rattle.efl_types.specs.Signatures.{many}
use Rattle.efl_types.specs.Types.{subscripted, in_members, member_type}
use Rattle.efl_types.specs.Presets.{constant, plus, steps_to, elements_before, places_before, before_member, member_offset, offset_behind, offset}
use Rattle.efl_program.specs.Typed.{Sort, Sorts}
use Rattle.efl_program.specs.Typed as sorts
use Rattle.efl_program.specs.Places.{Extent, extents, all_of, Path, ToMember, ToElement, counting, subscripts, paths, member_paths}
use Rattle.efl_program.specs.Places as layout
use Rattle.efl_typed.specs.Typing.{typed_bound, sort_of, sorts_of, index_in}
use Rattle.efl_typed.specs.PlacePaths.{is_sized, are_sized, type_behind, type_at, joined, constants, to_element, has_member, to_member, path_behind, path_of, PlacesHaveTheirNumbers}
use Rattle.efl_typed.proofs.LayoutLemmas.{between, arrived, far, append_left, append_right, flat_at, counting_at}
use Rattle.efl_typed.proofs.Layouts.{with_first, first_many, with_element, element_many, paths_many}

-- ---- what may be missing ----

plus_parts : (o p : Option ℕ) (k : ℕ) → plus o p ≡ Some k → (a : ℕ) × (b : ℕ) × (o ≡ Some a) × (p ≡ Some b) × (a + b ≡ k)
plus_parts (Some a) (Some b) k e = (a, b, refl, refl, same_Some (a + b) k e)
plus_parts (Some a) None k e = absurd (none-some k e)
plus_parts None p k e = absurd (none-some k e)

mapped_some : {X Y : Type 0} (f : X → Y) (o : Option X) (y : Y) → option_map f o ≡ Some y → (x : X) × (o ≡ Some x) × (f x ≡ y)
mapped_some f None y e = absurd (none-some y e)
mapped_some f (Some x) y e = (x, refl, same_Some (f x) y e)

-- ---- how many places ----

abbrev has_upper : EflBound → Bool
has_upper b = is_some b.high

same_steps : (high : Option ℤ) (low : ℤ) (n : ℕ) → is_some high ≡ true → layout.steps high low n ≡ many_from low high
same_steps (Some high) low n h = refl
same_steps None low n h = absurd (true≢false (sym h))

same_elements : (n : ℕ) (bs : List EflBound) → list_all has_upper bs ≡ true → all_of (extents n (map typed_bound bs)) ≡ elements bs
same_elements n [] h = refl
same_elements n (b ∷ bs) h =
    let p = and_parts (has_upper b) (list_all has_upper bs) h in
    ap₂ (λ i j. i * j) (same_steps b.high (low_of b) n p.0) (same_elements (n * layout.steps b.high (low_of b) n) bs p.1)

mutual
  same_places : (t : DataType) → is_sized t ≡ true → layout.places (sort_of t) ≡ places t
  same_places (Scalar k) h = refl
  same_places (Structured ms) h = same_members ms h
  same_places (Array bs t) h =
      let p = and_parts (list_all has_upper bs) (is_sized t) h in
      ap₂ (λ i j. i * j) (same_elements (layout.places (sort_of t)) bs p.0) (same_places t p.1)
  same_places NoType h = absurd (true≢false (sym h))

  same_members : (ms : Members) → are_sized ms ≡ true → layout.all_places (sorts_of ms) ≡ all_places ms
  same_members NoMember h = refl
  same_members (AndMember x t ms) h = let p = and_parts (is_sized t) (are_sized ms) h in ap₂ (λ i j. i + j) (same_places t p.0) (same_members ms p.1)

-- ---- elements ----

-- a subscript within its bounds
record Within (b : EflBound) (z : ℤ) (i : ℕ) : Type 0 where
  pub low : i < many_from (low_of b) b.high
  pub number : low_of b +ℤ pos i ≡ z

within : (b : EflBound) (z : ℤ) (i : ℕ) → steps_to b z ≡ Some i → Within b z i
within b z i e =
    let c = cond_some (int_le (low_of b) z && is_from z b.high) (unsigned_abs (z -ℤ low_of b)) i e in
    let p = and_parts (int_le (low_of b) z) (is_from z b.high) c.0 in
    record { low = subst (λ n. n < many_from (low_of b) b.high) c.1 (below b.high p.0 p.1); number = ap (λ n. low_of b +ℤ pos n) (sym c.1) ∙ arrived (low_of b) z p.0 }
  where
    below : (high : Option ℤ) → int_le (low_of b) z ≡ true → is_from z high ≡ true → unsigned_abs (z -ℤ low_of b) < many_from (low_of b) high
    below (Some high) above e = between (low_of b) z high above e
    below None above e = absurd (true≢false (sym e))

-- subscripts that stand j-th among all, where each step has m elements
record Subscripts (m n : ℕ) (bs : List EflBound) (es : EflExprs) (k : ℕ) : Type 0 where
  pub numbers : List ℤ
  pub are : constants es ≡ Some numbers
  pub as_many : length bs ≡ many es
  pub j : ℕ
  pub elements : k ≡ j * m
  pub list : slice_get (subscripts (extents n (map typed_bound bs))) j ≡ Some numbers

before_them : (m n : ℕ) (b : EflBound) (bs : List EflBound) (e : EflExpr) (es : EflExprs) (i c k : ℕ) (z : ℤ) → has_upper b ≡ true → constant e ≡ Some z → Within b z i → i * m + c ≡ k →
    Subscripts (m * many_from (low_of b) b.high) (n * layout.steps b.high (low_of b) n) bs es c → Subscripts m n (b ∷ bs) (AndExpr e es) k
before_them m n b bs e es i c k z has is w sum g =
    let wide = layout.steps b.high (low_of b) n in
    let same : wide ≡ many_from (low_of b) b.high = same_steps b.high (low_of b) n has in
    let one : Extent = record { first = low_of b; many = wide } in
    record {
      numbers = z ∷ g.numbers;
      are = ap (option_and_then (λ i. option_map (λ is'. i ∷ is') (constants es))) is ∙ ap (option_map (λ is'. z ∷ is')) g.are;
      as_many = one_on (length bs) (many es) g.as_many;
      j = g.j * wide + i;
      elements = sym sum ∙ ap (λ x. i * m + x) g.elements ∙ far g.j m i (many_from (low_of b) b.high) ∙ ap (λ x. (g.j * x + i) * m) (sym same);
      list = flat_at (with_first one) wide (first_many one) (subscripts (extents (n * wide) (map typed_bound bs))) g.j i g.numbers (z ∷ g.numbers) g.list
          (slice_get-map (λ i. i ∷ g.numbers) (counting wide (low_of b)) i
          ∙ ap (option_map (λ i. i ∷ g.numbers)) (counting_at wide (low_of b) i (subst (λ x. i < x) (sym same) w.low))
          ∙ ap (λ y. Some (y ∷ g.numbers)) w.number);
    }
  where
    one_on : (a b : ℕ) → a ≡ b → suc a ≡ b + 1
    one_on a b e = omega (arith, e)

subscripts_of : (m n : ℕ) (bs : List EflBound) (es : EflExprs) (k : ℕ) → list_all has_upper bs ≡ true → elements_before m bs es ≡ Some k → Subscripts m n bs es k
subscripts_of m n [] NoExpr k h e = record { numbers = []; are = refl; as_many = refl; j = 0; elements = sym (same_Some 0 k e) ∙ none m; list = refl }
  where
    none : (m : ℕ) → 0 ≡ 0 * m
    none m = omega arith
subscripts_of m n [] (AndExpr e es) k h is = absurd (none-some k is)
subscripts_of m n (b ∷ bs) NoExpr k h is = absurd (none-some k is)
subscripts_of m n (b ∷ bs) (AndExpr e es) k h is =
    let p = and_parts (has_upper b) (list_all has_upper bs) h in
    let sum = plus_parts (option_map (λ i. i * m) (option_and_then (steps_to b) (constant e))) (elements_before (m * many_from (low_of b) b.high) bs es) k is in
    let i = mapped_some (λ i. i * m) (option_and_then (steps_to b) (constant e)) sum.0 sum.2 in
    option_and_then_some (steps_to b) (constant e) i.0 i.1 (λ z number there. before_them m n b bs e es i.0 sum.1 k z p.0 number (within b z i.0 there) (ap (λ x. x + sum.1) i.2 ∙ sum.4)
    (subscripts_of (m * many_from (low_of b) b.high) (n * layout.steps b.high (low_of b) n) bs es sum.1 p.1 sum.3))

-- ---- from a type to one within it ----

-- behind this path the paths of the one sort stand among those of the other, from the number k on
abbrev pub Leads : Sort → Path → ℕ → Sort → Type 0
Leads s q k u = (i : ℕ) (r : Path) → slice_get (paths u) i ≡ Some r → slice_get (paths s) (k + i) ≡ Some (q ++ r)

pub record Reaches (t : DataType) (o : Option Path) (k : ℕ) (u : DataType) : Type 0 where
  pub path : Path
  pub is : o ≡ Some path
  pub sized : is_sized u ≡ true
  pub leads : Leads (sort_of t) path k (sort_of u)

no_further : (t : DataType) (k : ℕ) → is_sized t ≡ true → Some 0 ≡ Some k → Reaches t (Some []) k t
no_further t k sized e = record { path = []; is = refl; sized = sized; leads = λ i r got. subst (λ n. slice_get (paths (sort_of t)) n ≡ Some r) (none i k (same_Some 0 k e)) got }
  where
    none : (i k : ℕ) → 0 ≡ k → i ≡ k + i
    none i k e = omega (arith, e)

then_on : (t u v : DataType) (o p : Option Path) (k j : ℕ) → Reaches t o k u → Reaches u p j v → Reaches t (joined o p) (k + j) v
then_on t u v o p k j a b = record {
  path = a.path ++ b.path;
  is = ap₂ joined a.is b.is;
  sized = b.sized;
  leads = λ i r got. subst (λ n. slice_get (paths (sort_of t)) n ≡ Some (a.path ++ b.path ++ r)) (all k j i) (a.leads (j + i) (b.path ++ r) (b.leads i r got) ∙ ap Some (sym (append_assoc a.path b.path r)));
}
  where
    all : (k j i : ℕ) → k + (j + i) ≡ k + j + i
    all k j i = omega arith

-- ---- to an element ----

subscripted_is : (bs : List EflBound) (t : DataType) (m n : ℕ) → length bs ≡ n → n ≡ m + 1 → subscripted (Array bs t) n ≡ t
subscripted_is bs t m zero e more = absurd (omega (arith, more))
subscripted_is bs t m (suc n) e more = ap (λ b. if b then t else NoType) (eq-eqb (length bs) (suc n) e)

an_element : (bs : List EflBound) (t : DataType) (e : EflExpr) (es : EflExprs) (n k : ℕ) → is_sized t ≡ true → n * places t ≡ k → Subscripts 1 (layout.places (sort_of t)) bs (AndExpr e es) n →
    Reaches (Array bs t) (to_element (AndExpr e es)) k t
an_element bs t e es n k sized sum g = record {
  path = ToElement g.numbers ∷ [];
  is = ap (option_map (λ is'. ToElement is' ∷ [])) g.are;
  sized = sized;
  leads = λ i r got. subst (λ x. slice_get (paths (sort_of (Array bs t))) x ≡ Some (ToElement g.numbers ∷ r)) (there g.j n (layout.places (sort_of t)) (places t) k i g.elements (same_places t sized) sum)
      (flat_at (with_element (sort_of t)) (layout.places (sort_of t)) (element_many (sort_of t)) (subscripts (extents (layout.places (sort_of t)) (map typed_bound bs))) g.j i g.numbers (ToElement g.numbers ∷ r) g.list
      (slice_get-map (λ q. ToElement g.numbers ∷ q) (paths (sort_of t)) i ∙ ap (option_map (λ q. ToElement g.numbers ∷ q)) got));
}
  where
    there : (j n x y k i : ℕ) → n ≡ j * 1 → x ≡ y → n * y ≡ k → j * x + i ≡ k + i
    there j n x y k i e f sum = ap (λ a. a + i) (ap (λ a. j * a) f ∙ ap (λ a. a * y) (ones j n e) ∙ sum)
      where
        ones : (j n : ℕ) → n ≡ j * 1 → j ≡ n
        ones j n e = omega (arith, e)

at_element : (t : DataType) (es : EflExprs) (k : ℕ) → is_sized t ≡ true → places_before t es ≡ Some k → Reaches t (to_element es) k (subscripted t (many es))
at_element t NoExpr k sized is = no_further t k sized is
at_element (Array bs t) (AndExpr e es) k sized is =
    let p = and_parts (list_all has_upper bs) (is_sized t) sized in
    let n = mapped_some (λ i. i * places t) (elements_before 1 bs (AndExpr e es)) k is in
    let g = subscripts_of 1 (layout.places (sort_of t)) bs (AndExpr e es) n.0 p.0 n.1 in
    subst (λ u. Reaches (Array bs t) (to_element (AndExpr e es)) k u) (sym (subscripted_is bs t (many es) (many (AndExpr e es)) g.as_many refl)) (an_element bs t e es n.0 k p.1 n.2 g)
at_element (Scalar j) (AndExpr e es) k sized is = absurd (none-some k is)
at_element (Structured ms) (AndExpr e es) k sized is = absurd (none-some k is)
at_element NoType (AndExpr e es) k sized is = absurd (none-some k is)

-- ---- to a member ----

-- a member with the number m, behind those of which n stand before
record Led (n : ℕ) (ss : Sorts) (k : ℕ) (has : Bool) (u : DataType) (m : ℕ) : Type 0 where
  pub there : has ≡ true
  pub sized : is_sized u ≡ true
  pub leads : (i : ℕ) (r : Path) → slice_get (paths (sort_of u)) i ≡ Some r → slice_get (member_paths n ss) (k + i) ≡ Some (ToMember (n + m) ∷ r)

the_first : (n k : ℕ) (t : DataType) (ss : Sorts) (other : Bool) → is_sized t ≡ true → Some 0 ≡ Some k → Led n (sorts.AndSort (sort_of t) ss) k (true || other) t 0
the_first n k t ss other sized e = record {
  there = refl;
  sized = sized;
  leads = λ i r got. subst (λ x. slice_get (member_paths n (sorts.AndSort (sort_of t) ss)) x ≡ Some (ToMember (n + 0) ∷ r)) (none i k (same_Some 0 k e))
      (append_left (map (λ q. ToMember n ∷ q) (paths (sort_of t))) (member_paths (n + 1) ss) i (ToMember (n + 0) ∷ r)
      (slice_get-map (λ q. ToMember n ∷ q) (paths (sort_of t)) i ∙ ap (option_map (λ q. ToMember n ∷ q)) got ∙ ap (λ m. Some (ToMember m ∷ r)) (nothing n)));
}
  where
    none : (i k : ℕ) → 0 ≡ k → i ≡ k + i
    none i k e = omega (arith, e)

    nothing : (n : ℕ) → n ≡ n + 0
    nothing n = omega arith

a_later : (n k a c : ℕ) (t u : DataType) (ss : Sorts) (has : Bool) (m : ℕ) → layout.places (sort_of t) ≡ a → a + c ≡ k → Led (n + 1) ss c has u m → Led n (sorts.AndSort (sort_of t) ss) k (false || has) u (m + 1)
a_later n k a c t u ss has m same sum g = record {
  there = g.there;
  sized = g.sized;
  leads = λ i r got. subst (λ x. slice_get (member_paths n (sorts.AndSort (sort_of t) ss)) x ≡ Some (ToMember (n + (m + 1)) ∷ r)) (all a c i k sum)
      (append_right (map (λ q. ToMember n ∷ q) (paths (sort_of t))) (member_paths (n + 1) ss) a (c + i) (ToMember (n + (m + 1)) ∷ r)
      (length-map (paths (sort_of t)) (λ q. ToMember n ∷ q) ∙ paths_many (sort_of t) ∙ same) (g.leads i r got ∙ ap (λ m. Some (ToMember m ∷ r)) (one_on n m)));
}
  where
    all : (a c i k : ℕ) → a + c ≡ k → a + (c + i) ≡ k + i
    all a c i k e = omega (arith, e)

    one_on : (n m : ℕ) → n + 1 + m ≡ n + (m + 1)
    one_on n m = omega arith

among_members : (n : ℕ) (x : Text) (ms : Members) (k : ℕ) → are_sized ms ≡ true → before_member x ms ≡ Some k → Led n (sorts_of ms) k (has_member x ms) (in_members x ms) (index_in x ms)
among_members n x NoMember k sized is = absurd (none-some k is)
among_members n x (AndMember y t ms) k sized is =
    let p = and_parts (is_sized t) (are_sized ms) sized in
    by (bytes_eq x y) p.0 (λ c e. among_members (n + 1) x ms c p.1 e) is
  where
    by : (b : Bool) → is_sized t ≡ true → ((c : ℕ) → before_member x ms ≡ Some c → Led (n + 1) (sorts_of ms) c (has_member x ms) (in_members x ms) (index_in x ms)) →
        (if b then Some 0 else plus (Some (places t)) (before_member x ms)) ≡ Some k →
        Led n (sorts.AndSort (sort_of t) (sorts_of ms)) k (b || has_member x ms) (if b then t else in_members x ms) (if b then 0 else index_in x ms + 1)
    by true own rest e = the_first n k t (sorts_of ms) (has_member x ms) own e
    by false own rest e =
        let sum = plus_parts (Some (places t)) (before_member x ms) k e in
        a_later n k (places t) sum.1 t (in_members x ms) (sorts_of ms) (has_member x ms) (index_in x ms) (same_places t own) (ap (λ a. a + sum.1) (same_Some (places t) sum.0 sum.2) ∙ sum.4) (rest sum.1 sum.3)

at_member : (x : Text) (t : DataType) (k : ℕ) → is_sized t ≡ true → member_offset x t ≡ Some k → Reaches t (to_member x t) k (member_type x t)
at_member x (Structured ms) k sized is =
    let g = among_members 0 x ms k sized is in
    record {
      path = ToMember (index_in x ms) ∷ [];
      is = ap (λ b. if b then Some (ToMember (index_in x ms) ∷ []) else None) g.there;
      sized = g.sized;
      leads = λ i r got. g.leads i r got ∙ ap (λ m. Some (ToMember m ∷ r)) (nothing (index_in x ms));
    }
  where
    nothing : (m : ℕ) → 0 + m ≡ m
    nothing m = omega arith
at_member x (Scalar j) k sized is = absurd (none-some k is)
at_member x (Array bs t) k sized is = absurd (none-some k is)
at_member x NoType k sized is = absurd (none-some k is)

-- ---- to a place ----

behind : (t : DataType) (steps : EflSteps) (k : ℕ) → is_sized t ≡ true → offset_behind t steps ≡ Some k → Reaches t (path_behind t steps) k (type_behind t steps)
behind t NoStep k sized is = no_further t k sized is
behind t (Member x es steps) k sized is =
    let own = member_type x t in
    let element = subscripted own (many es) in
    let a = plus_parts (member_offset x t) (plus (places_before own es) (offset_behind element steps)) k is in
    let b = plus_parts (places_before own es) (offset_behind element steps) a.1 a.3 in
    let first = at_member x t a.0 sized a.2 in
    let second = at_element own es b.0 first.sized b.2 in
    subst (λ n. Reaches t (path_behind t (Member x es steps)) n (type_behind t (Member x es steps))) a.4
    (then_on t own (type_behind element steps) (to_member x t) (joined (to_element es) (path_behind element steps)) a.0 a.1 first
    (subst (λ n. Reaches own (joined (to_element es) (path_behind element steps)) n (type_behind element steps)) b.4
    (then_on own element (type_behind element steps) (to_element es) (path_behind element steps) b.0 b.1 second (behind element steps b.1 second.sized b.3))))
behind t (Overlay x steps) k sized is = absurd (none-some k is)

-- the paths of what stands at the place, which need be no scalar, go on from there one by one
pub place_reached : (t : DataType) (p : EflPlace) (k : ℕ) → is_sized t ≡ true → offset t p ≡ Some k → Reaches t (path_of t p) k (type_at t p)
place_reached t (efl.Path x es steps) k sized is =
    let element = subscripted t (many es) in
    let a = plus_parts (places_before t es) (offset_behind element steps) k is in
    let first = at_element t es a.0 sized a.2 in
    subst (λ n. Reaches t (joined (to_element es) (path_behind element steps)) n (type_behind element steps)) a.4
    (then_on t element (type_behind element steps) (to_element es) (path_behind element steps) a.0 a.1 first (behind element steps a.1 first.sized a.3))

place_numbered : (t : DataType) (p : EflPlace) (k : ℕ) (j : Kind) → is_sized t ≡ true → type_at t p ≡ Scalar j → offset t p ≡ Some k → (q : Path) × (path_of t p ≡ Some q) × (slice_get (paths (sort_of t)) k ≡ Some q)
place_numbered t p k j sized scalar is =
    let g = place_reached t p k sized is in (
      g.path,
      g.is,
      subst (λ n. slice_get (paths (sort_of t)) n ≡ Some g.path) (nothing k)
          (g.leads 0 [] (subst (λ u. slice_get (paths (sort_of u)) 0 ≡ Some []) (sym scalar) refl) ∙ ap Some (append-nil g.path)),
    )
  where
    nothing : (k : ℕ) → k + 0 ≡ k
    nothing k = omega arith

-- ---- types without a fault ----

closed_upper : (bs : List EflBound) → list_all is_closed bs ≡ true → list_all has_upper bs ≡ true
closed_upper [] h = refl
closed_upper (b ∷ bs) h = let p = and_parts (is_closed b) (list_all is_closed bs) h in and_from (has_upper b) (list_all has_upper bs) (upper b.high (low_of b) p.0) (closed_upper bs p.1)
  where
    upper : (high : Option ℤ) (low : ℤ) → is_from low high ≡ true → is_some high ≡ true
    upper None low e = absurd (true≢false (sym e))
    upper (Some high) low e = refl

mutual
  sound_sized : (t : DataType) → is_sound t ≡ true → is_sized t ≡ true
  sound_sized (Scalar k) h = refl
  sound_sized (Structured ms) h = sound_members ms h
  sound_sized (Array bs t) h =
      let p = and_parts (nat_le (length bs) 7 && list_all is_closed bs) (is_sound t) h in
      and_from (list_all has_upper bs) (is_sized t) (closed_upper bs (and_parts (nat_le (length bs) 7) (list_all is_closed bs) p.0).1) (sound_sized t p.1)
  sound_sized NoType h = absurd (true≢false (sym h))

  sound_members : (ms : Members) → are_sound ms ≡ true → are_sized ms ≡ true
  sound_members NoMember h = refl
  sound_members (AndMember x t ms) h =
      let p = and_parts (is_sound t && not (is_large t)) (are_sound ms) h in
      and_from (is_sized t) (are_sized ms) (sound_sized t (and_parts (is_sound t) (not (is_large t)) p.0).0) (sound_members ms p.1)

pub placed : PlacesHaveTheirNumbers
placed = record { kth = place_numbered; sized = sound_sized }
