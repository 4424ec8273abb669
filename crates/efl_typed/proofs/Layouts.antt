-- The k-th path of a sort has the offset k, and a sort has as many paths as places.
use Rattle.std.proofs.Common.{◌≡◌, ℕ, zero, suc, ◌+◌, ◌*◌, ◌<◌, Bool, true, false, List, [], ◌∷◌, length, map, Some, refl, sym, ap, ap₂, subst, ◌∙◌, true≢false, inl, inr, arith}
use Rattle.std.specs.Prelude.{ℤ, pos, ◌+ℤ◌, ◌-ℤ◌, unsigned_abs, int_le, int_lt, ◌&&◌, if◌then◌else◌}
use Rattle.std.specs.List.{slice_get}
use Rattle.std.proofs.Math.ListN.{length-append}
use Rattle.std.proofs.lemmas.List.{length-map}
use Rattle.std.proofs.lemmas.Option.{none-some, same_Some}
use Rattle.ground.specs.declared.trap.Trap.TheVariants.{Subscript}
use Rattle.ground.specs.Content.{Whole}
use Rattle.f66_tree.specs.World.{Try, Yields, Traps, Fails, then_try}
use Rattle.efl_program.specs.Typed.{Sort, Scalar, Shape, Array, Sorts, NoSort, AndSort}
use Rattle.efl_program.specs.Places.{places, all_places, before, Extent, extents, all_of, distance, Path, ToMember, ToElement, counting, subscripts, paths, member_paths}
use Rattle.efl_typed.specs.Layout.{path_offset, offset_within, PathsHaveTheirNumbers}
use Rattle.efl_typed.proofs.LayoutLemmas.{above, below, apart, far, append_get, map_get, flat_get, flat_length, counting_length, counting_get}

-- ---- subscripts ----

-- all subscripts of one dimension before others
abbrev pub with_first : Extent → List ℤ → List (List ℤ)
with_first e is' = map (λ i. i ∷ is') (counting e.many e.first)

pub first_many : (e : Extent) (is' : List ℤ) → length (with_first e is') ≡ e.many
first_many e is' = length-map (counting e.many e.first) (λ i. i ∷ is') ∙ counting_length e.many e.first

subscripts_many : (es : List Extent) → length (subscripts es) ≡ all_of es
subscripts_many [] = refl
subscripts_many (e ∷ es) = flat_length (with_first e) e.many (first_many e) (subscripts es) ∙ turned (length (subscripts es)) (all_of es) e.many (subscripts_many es)
  where
    turned : (l m n : ℕ) → l ≡ m → l * n ≡ n * m
    turned l m n h = ap (λ x. x * n) h ∙ commuted m n
      where
        commuted : (m n : ℕ) → m * n ≡ n * m
        commuted m n = omega arith

tested : (a b : Bool) (x y : Try ℕ) → a ≡ true → b ≡ true → (if a && b then x else y) ≡ x
tested true b x y refl' h = ap (λ t. if t then x else y) h
tested false b x y h k = absurd (true≢false (sym h))

-- the element i steps into its dimension, the others having their distance
stepped : (m : ℕ) (e : Extent) (is' : List ℤ) (es : List Extent) (r d : ℕ) → r < e.many → distance (m * e.many) (map Whole is') es ≡ Yields d →
    distance m (map Whole ((e.first +ℤ pos r) ∷ is')) (e ∷ es) ≡ Yields (r * m + d)
stepped m e is' es r d low h =
    let i = e.first +ℤ pos r in
    tested (int_le e.first i) (int_lt i (e.first +ℤ pos e.many)) (then_try (distance (m * e.many) (map Whole is') es) (λ n. Yields (unsigned_abs (i -ℤ e.first) * m + n))) (Traps Subscript) (above e.first r) (below e.first r e.many low)
    ∙ ap (λ t. then_try t (λ n. Yields (unsigned_abs (i -ℤ e.first) * m + n))) h ∙ ap (λ k. Yields (k * m + d)) (apart e.first r)

subscripts_get : (m : ℕ) (es : List Extent) (j : ℕ) (is' : List ℤ) → slice_get (subscripts es) j ≡ Some is' → distance m (map Whole is') es ≡ Yields (j * m)
subscripts_get m [] zero is' h = subst (λ x. distance m (map Whole x) [] ≡ Yields (0 * m)) (same_Some [] is' h) (ap Yields (none m))
  where
    none : (m : ℕ) → 0 ≡ 0 * m
    none m = omega arith
subscripts_get m [] (suc j) is' h = absurd (none-some is' h)
subscripts_get m (e ∷ es) j is' h =
    let g = flat_get (with_first e) e.many (first_many e) (subscripts es) j is' h in
    let one = map_get (λ i. i ∷ g.x) (counting e.many e.first) g.r is' g.element in
    let i : one.0 ≡ e.first +ℤ pos g.r = counting_get e.many e.first g.r one.0 one.1 in
    let whole : (e.first +ℤ pos g.r) ∷ g.x ≡ is' = ap (λ z. z ∷ g.x) (sym i) ∙ one.2 in
    subst (λ x. distance m (map Whole x) (e ∷ es) ≡ Yields (j * m)) whole
    (stepped m e g.x es g.r (g.j * (m * e.many)) g.low (subscripts_get (m * e.many) es g.j g.x g.list) ∙ ap Yields (far g.j m g.r e.many ∙ ap (λ k. k * m) (sym g.number)))

-- ---- paths ----

abbrev pub with_element : Sort → List ℤ → List Path
with_element s is' = map (λ q. ToElement is' ∷ q) (paths s)

mutual
  pub paths_many : (s : Sort) → length (paths s) ≡ places s
  paths_many (Scalar k) = refl
  paths_many (Shape ss) = members_many 0 ss
  paths_many (Array bs s) =
      flat_length (with_element s) (places s) (λ is'. length-map (paths s) (λ q. ToElement is' ∷ q) ∙ paths_many s) (subscripts (extents (places s) bs))
      ∙ ap (λ n. n * places s) (subscripts_many (extents (places s) bs))

  members_many : (n : ℕ) (ss : Sorts) → length (member_paths n ss) ≡ all_places ss
  members_many n NoSort = refl
  members_many n (AndSort s ss) =
      length-append (map (λ q. ToMember n ∷ q) (paths s)) (member_paths (n + 1) ss) ∙ ap₂ (λ a b. a + b) (length-map (paths s) (λ q. ToMember n ∷ q) ∙ paths_many s) (members_many (n + 1) ss)

pub element_many : (s : Sort) (is' : List ℤ) → length (with_element s is') ≡ places s
element_many s is' = length-map (paths s) (λ q. ToElement is' ∷ q) ∙ paths_many s

-- ---- a number further on ----

abbrev value : Try ℕ → ℕ
value (Yields n) = n
value t = 0

abbrev is_found : Try ℕ → Bool
is_found (Yields n) = true
is_found t = false

moved_on : (t : Try ℕ) (b i n k : ℕ) → k ≡ n + i → then_try t (λ j. Yields (b + j)) ≡ Yields i → then_try t (λ j. Yields (n + b + j)) ≡ Yields k
moved_on (Yields j) b i n k e h = ap Yields (let l : b + j ≡ i = ap value h in summed n b j i k e l)
  where
    summed : (n b j i k : ℕ) → k ≡ n + i → b + j ≡ i → n + b + j ≡ k
    summed n b j i k e l = omega arith
moved_on (Traps t) b i n k e h = absurd (true≢false (sym (ap is_found h)))
moved_on Fails b i n k e h = absurd (true≢false (sym (ap is_found h)))

-- the k-th path of the members from the n-th on
record InMember (n : ℕ) (ss : Sorts) (k : ℕ) (q : Path) : Type 0 where
  pub member : ℕ
  pub rest : Path
  pub path : ToMember (n + member) ∷ rest ≡ q
  pub offset : then_try (offset_within member ss rest) (λ i. Yields (before member ss + i)) ≡ Yields k

mutual
  pub paths_get : (s : Sort) (k : ℕ) (q : Path) → slice_get (paths s) k ≡ Some q → path_offset s q ≡ Yields k
  paths_get (Scalar t) zero q h = subst (λ x. path_offset (Scalar t) x ≡ Yields 0) (same_Some [] q h) refl
  paths_get (Scalar t) (suc k) q h = absurd (none-some q h)
  paths_get (Shape ss) k q h =
      let g = members_get 0 ss k q h in
      subst (λ x. path_offset (Shape ss) x ≡ Yields k) (ap (λ n. ToMember n ∷ g.rest) (zero_on g.member) ∙ g.path) g.offset
    where
      zero_on : (n : ℕ) → n ≡ 0 + n
      zero_on n = omega arith
  paths_get (Array bs s) k q h =
      let g = flat_get (with_element s) (places s) (element_many s) (subscripts (extents (places s) bs)) k q h in
      let one = map_get (λ x. ToElement g.x ∷ x) (paths s) g.r q g.element in
      subst (λ x. path_offset (Array bs s) x ≡ Yields k) one.2
      (ap (λ t. then_try t (λ n. then_try (path_offset s one.0) (λ i. Yields (n * places s + i)))) (subscripts_get 1 (extents (places s) bs) g.j g.x g.list)
      ∙ ap (λ t. then_try t (λ i. Yields (g.j * 1 * places s + i))) (paths_get s g.r one.0 one.1) ∙ ap Yields (ones g.j (places s) g.r ∙ sym g.number))
    where
      ones : (j n r : ℕ) → j * 1 * n + r ≡ j * n + r
      ones j n r = omega arith

  members_get : (n : ℕ) (ss : Sorts) (k : ℕ) (q : Path) → slice_get (member_paths n ss) k ≡ Some q → InMember n ss k q
  members_get n NoSort k q h = absurd (none-some q h)
  members_get n (AndSort s ss) k q h = elim (append_get (map (λ x. ToMember n ∷ x) (paths s)) (member_paths (n + 1) ss) k q h) [
    | inl e ↦ (let one = map_get (λ x. ToMember n ∷ x) (paths s) k q e in
        record {
          member = 0;
          rest = one.0;
          path = ap (λ m. ToMember m ∷ one.0) (none n) ∙ one.2;
          offset = ap (λ t. then_try t (λ i. Yields (0 + i))) (paths_get s k one.0 one.1) ∙ ap Yields (nothing k);
        })
    | inr e ↦ further n s ss k q e.0 (e.1 ∙ ap (λ m. m + e.0) (length-map (paths s) (λ x. ToMember n ∷ x) ∙ paths_many s)) (members_get (n + 1) ss e.0 q e.2)
  ]
    where
      none : (n : ℕ) → n + 0 ≡ n
      none n = omega arith

      nothing : (k : ℕ) → 0 + k ≡ k
      nothing k = omega arith

      further : (n : ℕ) (s : Sort) (ss : Sorts) (k : ℕ) (q : Path) (i : ℕ) → k ≡ places s + i → InMember (n + 1) ss i q → InMember n (AndSort s ss) k q
      further n s ss k q i e g = record { member = suc g.member; rest = g.rest; path = ap (λ m. ToMember m ∷ g.rest) (one_on n g.member) ∙ g.path; offset = moved_on (offset_within g.member ss g.rest) (before g.member ss) i (places s) k e g.offset }
        where
          one_on : (n m : ℕ) → n + suc m ≡ n + 1 + m
          one_on n m = omega arith

pub numbered : PathsHaveTheirNumbers
numbered = record { many = paths_many; kth = paths_get }
