-- The blocks and names of a unit that are listed are its table: the rows are first the blocks, blank common before all, and then the
-- names that have places.
use Rattle.std.proofs.Common.{◌≡◌, ◌<◌, ◌+◌, ◌-◌, ◌^◌, ℕ, zero, suc, Bool, true, false, cond, List, [], ◌∷◌, ◌++◌, length, map, replicate, slice_index, get_or, Option, None, Some, unwrap_or, refl, sym, ap, ◌∙◌, arith, subst, ◌||◌}
use Rattle.std.proofs.lemmas.Bool.{lt-ltb}
use Rattle.std.proofs.lemmas.List.{get_or-append_right, get_or_append_left, get_or-map, get_or-replicate, length-append, length-map, length-replicate}
use Rattle.std.proofs.lemmas.List.Elements.{All-append, All-map, All-replicate}
use Rattle.std.proofs.lemmas.Slice.Eq.{bytes_eq-Decides}
use Rattle.std.specs.List.{All, list_any}
use Rattle.f66_tree.specs.Syntax.{Text, Par, Area, Act, Common, Routine}
use Rattle.f66_tree.specs.Units.{sizes_of}
use Rattle.f66_program.specs.Mentions.{context_of, has_places}
use Rattle.f66_program.specs.Association.{Row, Own, Block, same_block, size_in}
use Rattle.f66_program.specs.Linking.{names_block}
use Rattle.storage_assoc.specs.Indexing.{row_at}
use Rattle.storage_assoc.specs.Listings.{AreNumberedFrom, capped, is_found, name_at}
use Rattle.storage_assoc.specs.Lists.{block_by}
use Rattle.storage_assoc.specs.Groups.{dims_by}
use Rattle.storage_assoc.specs.Naming.{IsReady, HasBlocks, AreListed, AreLabelled}

number_found : (o : Option ℕ) → is_found o ≡ true → (i : ℕ) × (o ≡ Some i)
number_found None e = absurd (cc)
number_found (Some i) e = (i, refl)

any_at : {X : Type 0} (test : X → Bool) (xs : List X) (i : ℕ) (d : X) → i < length xs → test (get_or xs i d) ≡ true → list_any test xs ≡ true
any_at test [] i d lt e = absurd (omega (arith, lt))
any_at test (x ∷ xs) zero d lt e = ap (λ b. b || list_any test xs) e
any_at test (x ∷ xs) (suc i) d lt e = or_true (test x) (any_at test xs i d (omega (arith, lt)) e)
  where
    or_true : (b : Bool) {c : Bool} → c ≡ true → (b || c) ≡ true
    or_true true e = refl
    or_true false e = e

same_element : {X : Type 0} (xs : List X) (i : ℕ) (d e : X) → i < length xs → get_or xs i d ≡ get_or xs i e
same_element [] i d e lt = absurd (omega (arith, lt))
same_element (x ∷ xs) zero d e lt = refl
same_element (x ∷ xs) (suc i) d e lt = same_element xs i d e (omega (arith, lt))

small_capped : (n : ℕ) → n < 2 ^ 16 → capped n ≡ n
small_capped n l = ap (λ b. cond b n 65536) (lt-ltb n 65536 l)

module _ (r : Routine) (find blocks : Text → Option ℕ) (dims : Text → Option (List Par)) (labels names : List Text) (sizes : List ℕ) (ready : IsReady r)
    (bl : AreNumberedFrom 1 labels blocks) (nl : AreNumberedFrom (suc (length labels)) names find)
    (blocks_are : (q : Text) → is_found (blocks q) ≡ list_any (λ s. names_block (Some q) s.act) r.lines) (names_are : (q : Text) → is_found (find q) ≡ has_places r q)
    (sizes_are : sizes ≡ replicate (suc (length labels)) 0 ++ map (λ x. capped (size_in (context_of r) x)) names)
    (shapes : (x : Text) → sizes_of x (context_of r).notes ≡ dims_by dims x) (bounded : length sizes < 2 ^ 31) where
  abbrev pub count : ℕ
  count = suc (length labels)

  abbrev pub block_rows : List Row
  block_rows = Block None ∷ map (λ x. Block (Some x)) labels

  abbrev pub name_rows : List Row
  name_rows = map (Own 0) names

  abbrev pub size_of : Text → ℕ
  size_of x = capped (size_in (context_of r) x)

  abbrev pub rows : List Row
  rows = block_rows ++ name_rows

  many_blocks : length block_rows ≡ count
  many_blocks = ap suc (length-map labels (λ x. Block (Some x)))

  many_rows : length rows ≡ count + length names
  many_rows = length-append block_rows name_rows ∙ ap (λ n. n + length name_rows) many_blocks ∙ ap (λ n. count + n) (length-map names (Own 0))

  many_sizes : length sizes ≡ count + length names
  many_sizes = ap length sizes_are ∙ length-append (replicate count 0) (map size_of names) ∙ ap (λ n. n + length (map size_of names)) (length-replicate count 0) ∙ ap (λ n. count + n) (length-map names size_of)

  name_row : (k : ℕ) → k < length names → row_at rows (count + k) ≡ Own 0 (name_at names k)
  name_row k lt =
      get_or-append_right block_rows name_rows count (count + k) (Block None) many_blocks (omega arith)
      ∙ ap (λ i. get_or name_rows i (Block None)) (omega arith) ∙ get_or-map (Own 0) names k [] (Block None) lt

  name_size : (k : ℕ) → k < length names → slice_index sizes (count + k) ≡ size_of (name_at names k)
  name_size k lt =
      ap (λ ns. slice_index ns (count + k)) sizes_are
      ∙ get_or-append_right (replicate count 0) (map size_of names) count (count + k) 0 (length-replicate count 0) (omega arith)
      ∙ ap (λ i. get_or (map size_of names) i 0) (omega arith) ∙ get_or-map size_of names k [] 0 lt

  block_row : (k : ℕ) → k < length labels → row_at rows (suc k) ≡ Block (Some (name_at labels k))
  block_row k lt =
      get_or_append_left block_rows name_rows (Block None) (suc k) (let m = many_blocks in omega (arith, m, lt))
      ∙ get_or-map (λ x. Block (Some x)) labels k [] (Block None) lt

  block_size : (i : ℕ) → i < count → slice_index sizes i ≡ 0
  block_size i lt =
      ap (λ ns. slice_index ns i) sizes_are
      ∙ get_or_append_left (replicate count 0) (map size_of names) 0 i (rw (length-replicate {A = ℕ} count 0) lt) ∙ get_or-replicate count i 0 0 lt

  has_name : (k : ℕ) → k < length names → has_places r (name_at names k) ≡ true
  has_name k lt = sym (names_are (name_at names k)) ∙ ap is_found (nl.has k lt)

  named : (x : Text) (i : ℕ) → find x ≡ Some i → has_places r x ≡ true
  named x i e = sym (names_are x) ∙ ap is_found e

  block_inside : (x : Text) (o : Option ℕ) → blocks x ≡ o → unwrap_or o 0 < count
  block_inside x None e = omega arith
  block_inside x (Some i) e = (let o = bl.only x i e in let lt = o.1 in let at = o.2 in omega (arith, lt, at))

  blocks_inside : (b : Option Text) → block_by blocks b < count
  blocks_inside None = omega arith
  blocks_inside (Some x) = block_inside x (blocks x) refl

  block : (i : ℕ) → i < count → (b : Option Text) × (row_at rows i ≡ Block b) × (block_by blocks b ≡ i) × (slice_index sizes i ≡ 0)
  block zero lt = (None, refl, refl, block_size 0 lt)
  block (suc k) lt =
      let k_in : k < length labels = omega (arith, lt) in
      (Some (name_at labels k), block_row k k_in, ap (λ o. unwrap_or o 0) (bl.has k k_in) ∙ omega arith, block_size (suc k) lt)

  block_is : (b : Option Text) → (q : Text) → b ≡ Some q → is_found (blocks q) ≡ true → row_at rows (block_by blocks b) ≡ Block b
  block_is b q e f =
      let n = number_found (blocks q) f in
      let o = bl.only q n.0 n.1 in
      let at : block_by blocks (Some q) ≡ suc o.0 = ap (λ o. unwrap_or o 0) n.1 ∙ (let i = o.2 in omega (arith, i)) in
      rw (e, at) (block_row o.0 o.1 ∙ ap (λ x. Block (Some x)) o.3)

  area_has_block : (areas : List Area) (b : Option Text) → ((q : Text) → b ≡ Some q → is_found (blocks q) ≡ true) → row_at rows (block_by blocks b) ≡ Block b
  area_has_block areas None f = refl
  area_has_block areas (Some q) f = block_is (Some q) q refl (f q refl)

  same_itself : (q : Text) → same_block (Some q) (Some q) ≡ true
  same_itself q = (bytes_eq-Decides q q).1 refl

  act_has_blocks : (a : Act) → ((q : Text) → names_block (Some q) a ≡ true → is_found (blocks q) ≡ true) → HasBlocks rows blocks a
  act_has_blocks (Common areas) f = λ i d lt. area_has_block areas (get_or areas i d).name
      (λ q e. f q (any_at (λ a. same_block (Some q) a.name) areas i d lt (ap (same_block (Some q)) e ∙ same_itself q)))
  act_has_blocks _ f = tt

  pub is_listed : AreListed r find blocks dims sizes count rows
  is_listed = record {
    many = many_sizes ∙ sym many_rows;
    some = omega arith;
    few = rw many_rows (omega arith);
    bounded = bounded;
    small = subst (All (λ n. n < 2 ^ 16)) (sym sizes_are) (All-append (λ n. n < 2 ^ 16) (replicate count 0) (map size_of names) (All-replicate (λ n. n < 2 ^ 16) count 0 (omega arith))
        (All-map (λ n. n < 2 ^ 16) size_of names (λ k d lt.
        let x = get_or names k d in
        let s = ready.small x (subst (λ y. has_places r y ≡ true) (same_element names k [] d lt) (has_name k lt)) in
        rw (small_capped (size_in (context_of r) x) s) s)));
    blocks_inside = blocks_inside;
    block = block;
    all_blocks = λ i d lt. act_has_blocks (get_or r.lines i d).act (λ q e. blocks_are q ∙ any_at (λ s. names_block (Some q) s.act) r.lines i d lt e);
    name = λ i ge lt.
        let n = many_rows in
        let k = i - count in
        let k_in : k < length names = omega (arith, ge, lt, n) in
        let at : count + k ≡ i = omega (arith, ge) in
        (name_at names k, subst (λ j. row_at rows j ≡ Own 0 (name_at names k)) at (name_row k k_in), nl.has k k_in ∙ ap Some at);
    row = λ x i e.
        let o = nl.only x i e in
        (rw (o.2, many_rows) (let lt = o.1 in omega (arith, lt)), rw o.2 (name_row o.0 o.1 ∙ ap (Own 0) o.3), named x i e);
    size = λ x i e.
        let o = nl.only x i e in
        let s = small_capped (size_in (context_of r) x) (ready.small x (named x i e)) in
        rw o.2 (sym (name_size o.0 o.1 ∙ ap size_of o.3 ∙ s));
    shape = λ x p. shapes x;
    names = λ x p. number_found (find x) (names_are x ∙ p);
  }

  pub are_labelled : AreLabelled r labels count rows
  are_labelled = record {
    many = refl;
    blank = refl;
    each = block_row;
    named = λ k lt. sym (blocks_are (name_at labels k)) ∙ ap is_found (bl.has k lt);
  }
