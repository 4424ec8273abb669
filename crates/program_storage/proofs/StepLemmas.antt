-- One unit more: its names are rows behind those that there are, and its links are links between these.
use Rattle.std.proofs.Common.{◌≡◌, ◌<◌, ◌≤◌, ◌+◌, ◌-◌, ◌^◌, inl, inr, ℕ, zero, suc, true, List, [], ◌∷◌, ◌++◌, length, map, drop, slice_index, Option, None, Some, option_map, unwrap_or, sym, ◌∙◌, ap, refl, arith, subst}
use Rattle.std.proofs.lemmas.Bool.{cases_lt}
use Rattle.std.proofs.lemmas.List.{get_or_append_left, get_or-append-add, get_or-drop, get_or-map, length-append, length-map, length-drop, map-append}
use Rattle.std.proofs.lemmas.List.Elements.{All-append, All-drop, All-map, All-weaker, All-contains, All-contains_itself, Contains-append_cases}
use Rattle.std.proofs.lemmas.Option.{slice_get_within, slice_get_past}
use Rattle.std.specs.List.{All, Contains, slice_get}
use Rattle.f66_tree.specs.Syntax.{Text, Par, Routine}
use Rattle.f66_program.specs.Mentions.{context_of, has_places}
use Rattle.f66_program.specs.Association.{Row, Own, Block, Tie, IsReal, size_in, unit_ties, ties_of}
use Rattle.f66_program.specs.Linking.{unit_names_block}
use Rattle.offset_classes.specs.declared.link.Link.{Link}
use Rattle.storage_assoc.specs.Indexing.{no_row, row_at, link_by, IsListed}
use Rattle.storage_assoc.specs.Listings.{is_found, name_at}
use Rattle.storage_assoc.specs.Lists.{block_by, row_by}
use Rattle.storage_assoc.specs.Naming.{IsReady, AreListed, AreLabelled, index_by}
use Rattle.storage_assoc.specs.Tables.{IsTable}
use Rattle.storage_assoc.specs.Walks.{IsWalked}
use Rattle.storage_assoc.proofs.NamingLemmas.{is_table}
use Rattle.program_storage.specs.Rows.{index_in, IsBelow, AreRowsOf, AreLinked}
use Rattle.program_storage.specs.Whole.{in_unit, AreWhole, relinked}
use Rattle.program_storage.proofs.ShiftLemmas.{moved, moved_unit, ties_of-push}

-- lists

pub got_before : {X : Type 0} (xs ys : List X) (i : ℕ) → i < length xs → slice_get (xs ++ ys) i ≡ slice_get xs i
got_before [] ys i lt = absurd (omega (arith, lt))
got_before (x ∷ xs) ys zero lt = refl
got_before (x ∷ xs) ys (suc i) lt = got_before xs ys i (omega (arith, lt))

pub got_last : {X : Type 0} (xs : List X) (x : X) → slice_get (xs ++ x ∷ []) (length xs) ≡ Some x
got_last [] x = refl
got_last (y ∷ xs) x = got_last xs x

pub got_behind : {X : Type 0} (xs : List X) (x : X) (i : ℕ) → length xs < i → slice_get (xs ++ x ∷ []) i ≡ None
got_behind xs x i lt = slice_get_past (xs ++ x ∷ []) i (let n = length-append xs (x ∷ []) in omega (arith, n, lt))

same_map : {X Y : Type 0} (f g : X → Y) (xs : List X) → All (λ x. f x ≡ g x) xs → map f xs ≡ map g xs
same_map f g [] h = refl
same_map f g (x ∷ xs) h = ap (λ y. y ∷ map f xs) (h 0 x (omega arith)) ∙ ap (λ ys. g x ∷ ys) (same_map f g xs (λ i d lt. h (suc i) d (omega (arith, lt))))

map_map : {X Y Z : Type 0} (f : X → Y) (g : Y → Z) (xs : List X) → map g (map f xs) ≡ map (λ x. g (f x)) xs
map_map f g [] = refl
map_map f g (x ∷ xs) = ap (λ ys. g (f x) ∷ ys) (map_map f g xs)

mapped_some : {X Y : Type 0} (f : X → Y) (o : Option X) (y : Y) → option_map f o ≡ Some y → (x : X) × (o ≡ Some x) × (f x ≡ y)
mapped_some f None y e = absurd (cc)
mapped_some f (Some x) y e = (x, refl, (let s : Some (f x) ≡ Some y = e in cc))

pub number_found : (o : Option ℕ) → is_found o ≡ true → (i : ℕ) × (o ≡ Some i)
number_found None e = absurd (cc)
number_found (Some i) e = (i, refl)

module _ (rs : List Routine) (find find' : ℕ → Text → Option ℕ) (blocks : Text → Option ℕ) (sizes : List ℕ) (count : ℕ) (rows : List Row) (t : AreRowsOf rs find blocks sizes count rows)
    (r : Routine) (ufind ublocks : Text → Option ℕ) (dims : Text → Option (List Par)) (usizes : List ℕ) (ucount : ℕ) (urows : List Row) (labels : List Text) (ready : IsReady r)
    (l : AreListed r ufind ublocks dims usizes ucount urows) (b : AreLabelled r labels ucount urows)
    (whole : List ℕ) (w : AreWhole blocks labels (length sizes) (length usizes - ucount) whole) (named : (q : Text) → unit_names_block (Some q) r ≡ true → is_found (blocks q) ≡ true)
    (before : (u : ℕ) (x : Text) → u < length rs → find' u x ≡ find u x) (here : (x : Text) → find' (length rs) x ≡ option_map (slice_index whole) (ufind x))
    (behind : (u : ℕ) (x : Text) → length rs < u → find' u x ≡ None) where
  abbrev pub new_rows : List Row
  new_rows = rows ++ map (in_unit (length rs)) (drop ucount urows)

  abbrev pub new_sizes : List ℕ
  new_sizes = sizes ++ drop ucount usizes

  abbrev pub new_index : Row → ℕ
  new_index = index_in find' blocks

  many_new : length new_rows ≡ length rows + (length urows - ucount)
  many_new = length-append rows _ ∙ ap (λ n. length rows + n) (length-map (drop ucount urows) (in_unit (length rs)) ∙ length-drop ucount urows)

  old_row : (i : ℕ) → i < length rows → row_at new_rows i ≡ row_at rows i
  old_row i lt = get_or_append_left rows _ no_row i lt

  new_row : (k : ℕ) → ucount + k < length urows → row_at new_rows (length rows + k) ≡ in_unit (length rs) (row_at urows (ucount + k))
  new_row k lt =
      get_or-append-add rows _ k no_row ∙ get_or-map (in_unit (length rs)) (drop ucount urows) k no_row no_row (rw (length-drop {A = Row} ucount urows) (omega (arith, lt)))
      ∙ ap (in_unit (length rs)) (get_or-drop ucount urows k no_row)

  old_size : (i : ℕ) → i < length rows → slice_index new_sizes i ≡ slice_index sizes i
  old_size i lt = get_or_append_left sizes _ 0 i (rw t.sized.many lt)

  new_size : (k : ℕ) → slice_index new_sizes (length rows + k) ≡ slice_index usizes (ucount + k)
  new_size k = ap (λ n. slice_index new_sizes (n + k)) (sym t.sized.many) ∙ get_or-append-add sizes _ k 0 ∙ get_or-drop ucount usizes k 0

  name_place : (j : ℕ) → ucount ≤ j → j < length urows → slice_index whole j ≡ length rows + (j - ucount)
  name_place j ge lt =
      let m = l.many in
      let n = b.many in
      let k_in : j - ucount < length usizes - ucount = omega (arith, ge, lt, m) in
      let at : suc (length labels) + (j - ucount) ≡ j = omega (arith, ge, n) in
      subst (λ i. slice_index whole i ≡ length sizes + (j - ucount)) at (w.name (j - ucount) k_in) ∙ ap (λ n. n + (j - ucount)) t.sized.many

  -- a name's row stands behind the blocks
  behind_blocks : (x : Text) (j : ℕ) → ufind x ≡ Some j → ucount ≤ j
  behind_blocks x j e = elim (cases_lt j ucount) [
    | inl lt ↦ absurd (let k = l.block j lt in let g = l.row x j e in let same : Block k.0 ≡ Own 0 x = sym k.1 ∙ g.1 in cc)
    | inr ge ↦ omega (arith, ge)
  ]

  -- each row of the unit is a row of the program

  IsPlaced : ℕ → Type 0
  IsPlaced i = (slice_index whole i < length new_rows) × (row_at new_rows (slice_index whole i) ≡ in_unit (length rs) (row_at urows i))

  label_placed : (k : ℕ) → k < length labels → (i : ℕ) × (i < length rows) × (slice_index whole (suc k) ≡ i) × (row_at rows i ≡ Block (Some (name_at labels k)))
  label_placed k lt =
      let f = number_found (blocks (name_at labels k)) (named (name_at labels k) (b.named k lt)) in
      let at : row_by blocks (name_at labels k) ≡ f.0 = ap (λ o. unwrap_or o 0) f.1 in
      let inside : row_by blocks (name_at labels k) < count = t.blocks_inside (Some (name_at labels k)) in
      let few = t.few in
      (f.0, omega (arith, at, inside, few), w.label k lt ∙ at, t.labelled (name_at labels k) f.0 f.1)

  block_placed : (i : ℕ) → i < ucount → IsPlaced i
  unfolding IsPlaced
  block_placed zero lt =
      let inside : 0 < length rows = (let i : block_by blocks None < count = t.blocks_inside None in let few = t.few in omega (arith, i, few)) in
      (rw (w.blank, many_new) (omega (arith, inside)), rw w.blank (old_row 0 inside ∙ t.blank ∙ sym (ap (in_unit (length rs)) b.blank)))
  block_placed (suc k) lt =
      let n = b.many in
      let k_in : k < length labels = omega (arith, lt, n) in
      let p = label_placed k k_in in
      (rw (p.2, many_new) (let i = p.1 in omega (arith, i)), rw p.2 (old_row p.0 p.1 ∙ p.3 ∙ sym (ap (in_unit (length rs)) (b.each k k_in))))

  name_placed : (j : ℕ) → ucount ≤ j → j < length urows → IsPlaced j
  unfolding IsPlaced
  name_placed j ge lt =
      let at = name_place j ge lt in
      let back : ucount + (j - ucount) ≡ j = omega (arith, ge) in
      (rw (at, many_new) (omega (arith, ge, lt)), rw at (new_row (j - ucount) (rw back lt) ∙ ap (λ i. in_unit (length rs) (row_at urows i)) back))

  placed : (i : ℕ) → i < length urows → (slice_index whole i < length new_rows) × (row_at new_rows (slice_index whole i) ≡ in_unit (length rs) (row_at urows i))
  unfolding IsPlaced
  placed i lt = elim (cases_lt i ucount) [ inl k ↦ block_placed i k | inr k ↦ name_placed i (omega (arith, k)) lt ]

  -- the table

  same_index : (a : Row) → IsBelow (length rs) a → new_index a ≡ index_in find blocks a
  same_index (Own u x) lt = ap (λ o. unwrap_or o 0) (before u x lt)
  same_index (Block q) lt = refl

  new_name : (i : ℕ) → length rows ≤ i → i < length new_rows →
      (x : Text) × (j : ℕ) × (ufind x ≡ Some j) × (slice_index whole j ≡ i) × (row_at new_rows i ≡ Own (length rs) x) × (slice_index new_sizes i ≡ slice_index usizes j)
  new_name i ge lt =
      let m = many_new in
      let k = i - length rows in
      let j_in : ucount + k < length urows = omega (arith, ge, lt, m) in
      let n = l.name (ucount + k) (omega arith) j_in in
      let at : length rows + k ≡ i = omega (arith, ge) in
      let way : slice_index whole (ucount + k) ≡ i = name_place (ucount + k) (omega arith) j_in ∙ omega (arith, ge) in (
        n.0,
        ucount + k,
        n.2,
        way,
        subst (λ i. row_at new_rows i ≡ Own (length rs) n.0) at (new_row k j_in ∙ ap (in_unit (length rs)) n.1),
        subst (λ i. slice_index new_sizes i ≡ slice_index usizes (ucount + k)) at (new_size k),
      )

  found_here : (x : Text) (j : ℕ) → ufind x ≡ Some j → find' (length rs) x ≡ Some (slice_index whole j)
  found_here x j e = here x ∙ ap (option_map (slice_index whole)) e

  name_size : (x : Text) (j : ℕ) → ufind x ≡ Some j → slice_index new_sizes (slice_index whole j) ≡ slice_index usizes j
  name_size x j e =
      let ge = behind_blocks x j e in
      ap (slice_index new_sizes) (name_place j ge (l.row x j e).0) ∙ new_size (j - ucount) ∙ ap (slice_index usizes) (omega (arith, ge))

  numbered : (i : ℕ) → i < length new_rows → new_index (row_at new_rows i) ≡ i
  numbered i lt = elim (cases_lt i (length rows)) [
    | inl k ↦ ap new_index (old_row i k) ∙ same_index (row_at rows i) (t.below i k) ∙ t.numbered i k
    | inr k ↦
        let n = new_name i (omega (arith, k)) lt in
        ap new_index n.4 ∙ ap (λ o. unwrap_or o 0) (found_here n.0 n.1 n.2) ∙ n.3
  ]

  longer : length (rs ++ r ∷ []) ≡ length rs + 1
  longer = length-append rs (r ∷ [])

  more_below : (n : ℕ) (a : Row) → n ≡ length rs + 1 → IsBelow (length rs) a → IsBelow n a
  more_below n (Own u x) e lt = omega (arith, e, lt)
  more_below n (Block q) e lt = tt

  below : (i : ℕ) → i < length new_rows → IsBelow (length (rs ++ r ∷ [])) (row_at new_rows i)
  below i lt = elim (cases_lt i (length rows)) [
    | inl k ↦ rw (old_row i k) (more_below _ (row_at rows i) longer (t.below i k))
    | inr k ↦ (let n = new_name i (omega (arith, k)) lt in rw n.4 (let m = longer in omega (arith, m)))
  ]

  real_old : (u : ℕ) (x : Text) (o : ℕ) → IsReal rs u x o → IsReal (rs ++ r ∷ []) u x o
  real_old u x o k = record { unit = k.unit; here = got_before rs (r ∷ []) u (slice_get_within rs u k.unit k.here) ∙ k.here; named = k.named; inside = k.inside }

  finds : (u : ℕ) (x : Text) (i : ℕ) → find' u x ≡ Some i → (i < length new_rows) × (row_at new_rows i ≡ Own u x)
  finds u x i e = elim (cases_lt u (length rs)) [
    | inl k ↦
        let f = t.sized.finds u x i (sym (before u x k) ∙ e) in
        (let g = f.0 in let m = many_new in omega (arith, g, m), old_row i f.0 ∙ f.1)
    | inr k ↦ elim (cases_lt (length rs) u) [
      | inl k' ↦ absurd (let s : None ≡ Some i = sym (behind u x k') ∙ e in cc)
      | inr k' ↦
          let at : length rs ≡ u = omega (arith, k, k') in
          let f = mapped_some (slice_index whole) (ufind x) i (sym (here x) ∙ subst (λ u. find' u x ≡ Some i) (sym at) e) in
          let g = l.row x f.0 f.1 in
          let p = placed f.0 g.0 in
          let lt : i < length new_rows = subst (λ j. j < length new_rows) f.2 p.0 in
          let row : row_at new_rows i ≡ in_unit (length rs) (row_at urows f.0) = subst (λ j. row_at new_rows j ≡ in_unit (length rs) (row_at urows f.0)) f.2 p.1 in
          (lt, row ∙ ap (in_unit (length rs)) g.1 ∙ ap (λ u. Own u x) at)
    ]
  ]

  real_here : (x : Text) (o : ℕ) → IsReal (rs ++ r ∷ []) (length rs) x o → (i : ℕ) × (find' (length rs) x ≡ Some i) × (o < slice_index new_sizes i)
  real_here x o k =
      let same : r ≡ k.unit = (let e : Some r ≡ Some k.unit = sym (got_last rs r) ∙ k.here in cc) in
      let p : has_places r x ≡ true = rw same k.named in
      let f = l.names x p in
      let lt : o < slice_index usizes f.0 = rw (sym {b = slice_index usizes f.0} (l.size x f.0 f.1), same) k.inside in
      (slice_index whole f.0, found_here x f.0 f.1, rw (name_size x f.0 f.1) lt)

  real : (u : ℕ) (x : Text) (o : ℕ) → IsReal (rs ++ r ∷ []) u x o → (i : ℕ) × (find' u x ≡ Some i) × (o < slice_index new_sizes i)
  real u x o k = elim (cases_lt u (length rs)) [
    | inl lt ↦
        let f = t.sized.real u x o (record { unit = k.unit; here = sym (got_before rs (r ∷ []) u lt) ∙ k.here; named = k.named; inside = k.inside }) in
        let g = t.sized.finds u x f.0 f.1 in
        (f.0, before u x lt ∙ f.1, rw (old_size f.0 g.0) f.2)
    | inr ge ↦ elim (cases_lt (length rs) u) [
      | inl gt ↦ absurd (let e : None ≡ Some k.unit = sym (got_behind rs r u gt) ∙ k.here in cc)
      | inr le ↦
          let at : length rs ≡ u = omega (arith, ge, le) in
          subst (λ u. (i : ℕ) × (find' u x ≡ Some i) × (o < slice_index new_sizes i)) at (real_here x o (subst (λ u. IsReal (rs ++ r ∷ []) u x o) (sym at) k))
    ]
  ]

  only : (i o : ℕ) → i < length new_rows → o < slice_index new_sizes i → (u : ℕ) × (x : Text) × (row_at new_rows i ≡ Own u x) × IsReal (rs ++ r ∷ []) u x o
  only i o lt o_in = elim (cases_lt i (length rows)) [
    | inl k ↦
        let v = t.sized.only i o k (rw (old_size i k) at o_in) in
        (v.0, v.1, old_row i k ∙ v.2, real_old v.0 v.1 o v.3)
    | inr k ↦
        let n = new_name i (omega (arith, k)) lt in
        let g = l.row n.0 n.1 n.2 in
        let s = l.size n.0 n.1 n.2 in
        (length rs, n.0, n.4, record { unit = r; here = got_last rs r; named = g.2; inside = rw s (rw n.5 at o_in) })
  ]

  spot_here : (x : Text) (i : ℕ) → find' (length rs) x ≡ Some i →
      (q : Routine) × (slice_get (rs ++ r ∷ []) (length rs) ≡ Some q) × (has_places q x ≡ true) × (size_in (context_of q) x ≡ slice_index new_sizes i)
  spot_here x i e =
      let f = mapped_some (slice_index whole) (ufind x) i (sym (here x) ∙ e) in
      let g = l.row x f.0 f.1 in
      let size : slice_index new_sizes (slice_index whole f.0) ≡ slice_index usizes f.0 = name_size x f.0 f.1 in
      (r, got_last rs r, g.2, l.size x f.0 f.1 ∙ sym size ∙ ap (slice_index new_sizes) f.2)

  spot : (u : ℕ) (x : Text) (i : ℕ) → find' u x ≡ Some i → (q : Routine) × (slice_get (rs ++ r ∷ []) u ≡ Some q) × (has_places q x ≡ true) × (size_in (context_of q) x ≡ slice_index new_sizes i)
  spot u x i e = elim (cases_lt u (length rs)) [
    | inl lt ↦
        let old : find u x ≡ Some i = sym (before u x lt) ∙ e in
        let s = t.spot u x i old in
        (s.0, got_before rs (r ∷ []) u lt ∙ s.1, s.2, s.3 ∙ sym (old_size i (t.sized.finds u x i old).0))
    | inr ge ↦ elim (cases_lt (length rs) u) [
      | inl gt ↦ absurd (let s : None ≡ Some i = sym (behind u x gt) ∙ e in cc)
      | inr le ↦
          let at : length rs ≡ u = omega (arith, ge, le) in
          subst (λ u. (q : Routine) × (slice_get (rs ++ r ∷ []) u ≡ Some q) × (has_places q x ≡ true) × (size_in (context_of q) x ≡ slice_index new_sizes i)) at
          (spot_here x i (subst (λ u. find' u x ≡ Some i) (sym at) e))
    ]
  ]

  all : (u : ℕ) (q : Routine) (x : Text) → slice_get (rs ++ r ∷ []) u ≡ Some q → has_places q x ≡ true → (i : ℕ) × (find' u x ≡ Some i)
  all u q x e p = elim (cases_lt u (length rs)) [
    | inl lt ↦ (let s = t.all u q x (sym (got_before rs (r ∷ []) u lt) ∙ e) p in (s.0, before u x lt ∙ s.1))
    | inr ge ↦ elim (cases_lt (length rs) u) [
      | inl gt ↦ absurd (let s : None ≡ Some q = sym (got_behind rs r u gt) ∙ e in cc)
      | inr le ↦
          let at : length rs ≡ u = omega (arith, ge, le) in
          let same : r ≡ q = (let s : Some r ≡ Some q = sym (got_last rs r) ∙ subst (λ u. slice_get (rs ++ r ∷ []) u ≡ Some q) (sym at) e in cc) in
          let f = l.names x (rw same p) in
          (slice_index whole f.0, subst (λ u. find' u x ≡ Some (slice_index whole f.0)) at (found_here x f.0 f.1))
    ]
  ]

  many_sizes : length new_sizes ≡ length new_rows
  many_sizes = length-append sizes _ ∙ (let m = many_new in let d = length-drop ucount usizes in let s = t.sized.many in let v = l.many in omega (arith, m, d, s, v))

  pub rows_more : AreRowsOf (rs ++ r ∷ []) find' blocks new_sizes count new_rows
  rows_more = record {
    numbered = numbered;
    below = below;
    few = (let f = t.few in let m = many_new in omega (arith, f, m));
    first = λ i lt. (let f = t.first i lt in (f.0, old_row i (let g = t.few in omega (arith, g, lt)) ∙ f.1));
    blocks_inside = t.blocks_inside;
    blank = old_row 0 (let i : block_by blocks None < count = t.blocks_inside None in let f = t.few in omega (arith, i, f)) ∙ t.blank;
    labelled = λ q i e.
        let at : row_by blocks q ≡ i = ap (λ o. unwrap_or o 0) e in
        let inside : row_by blocks q < count = t.blocks_inside (Some q) in
        old_row i (let f = t.few in omega (arith, at, inside, f)) ∙ t.labelled q i e;
    small = All-append (λ n. n < 2 ^ 16) sizes (drop ucount usizes) t.small (All-drop (λ n. n < 2 ^ 16) ucount usizes l.small);
    sized = record { many = many_sizes; finds = finds; real = real; only = only };
    spot = spot;
    all = all;
  }

  -- the links

  unit_row : (a : Row) → IsListed urows (index_by ufind ublocks) a → (slice_index whole (index_by ufind ublocks a) ≡ new_index (in_unit (length rs) a)) × IsListed new_rows new_index (in_unit (length rs) a)
  unit_row a k =
      let i = index_by ufind ublocks a in
      let p = placed i k.inside in
      let row : row_at new_rows (slice_index whole i) ≡ in_unit (length rs) a = p.1 ∙ ap (in_unit (length rs)) k.back in
      let number : new_index (in_unit (length rs) a) ≡ slice_index whole i = ap new_index (sym row) ∙ numbered (slice_index whole i) p.0 in
      (sym number, record { inside = rw number p.0; back = ap (row_at new_rows) number ∙ row })

  old_listed : (a : Row) → IsListed rows (index_in find blocks) a → (new_index a ≡ index_in find blocks a) × IsListed new_rows new_index a
  old_listed a k =
      let same : new_index a ≡ index_in find blocks a = same_index a (subst (IsBelow (length rs)) k.back (t.below (index_in find blocks a) k.inside)) in
      let inside = k.inside in
      let m = many_new in
      (same, record { inside = rw same (omega (arith, inside, m)); back = ap (row_at new_rows) same ∙ old_row (index_in find blocks a) k.inside ∙ k.back })

  module _ (links : List Link) (k : AreLinked rs find blocks links rows) (fills : List ℕ) (ulinks : List Link) (counts : List ℕ)
      (walk : IsWalked 0 (context_of r) urows (index_by ufind ublocks) r.lines fills ulinks counts) where
    table : IsTable r ufind ublocks dims usizes ucount urows (index_by ufind ublocks)
    table = is_table r ufind ublocks dims usizes ucount urows ready l

    unit_tie : (x : Tie) → Contains (unit_ties 0 r) x → relinked whole (link_by (index_by ufind ublocks) x) ≡ link_by new_index (moved (length rs) x)
    unit_tie x c =
        let f = (unit_row x.from (table.from_in x c)).0 in
        let g = (unit_row x.to (table.to_in x c)).0 in
        ap (λ (i : ℕ). record { from = i; to = slice_index whole (index_by ufind ublocks x.to); by = x.by }) f ∙ ap (λ (i : ℕ). record { from = new_index (in_unit (length rs) x.from); to = i; by = x.by }) g

    old_tie : (x : Tie) → Contains (ties_of rs) x → link_by (index_in find blocks) x ≡ link_by new_index x
    old_tie x c =
        let f = (old_listed x.from (k.from_in x c)).0 in
        let g = (old_listed x.to (k.to_in x c)).0 in
        ap (λ (i : ℕ). record { from = i; to = index_in find blocks x.to; by = x.by }) (sym f) ∙ ap (λ (i : ℕ). record { from = new_index x.from; to = i; by = x.by }) (sym g)

    abbrev IsListedTie : Tie → Type 0
    IsListedTie x = IsListed new_rows new_index x.from × IsListed new_rows new_index x.to

    tie_listed : (x : Tie) → Contains (ties_of (rs ++ r ∷ [])) x → IsListedTie x
    tie_listed x c = elim (Contains-append_cases (ties_of rs) (unit_ties (length rs) r) x (subst (λ ts. Contains ts x) (ties_of-push rs r) c)) [
      | inl h ↦ ((old_listed x.from (k.from_in x h)).1, (old_listed x.to (k.to_in x h)).1)
      | inr h ↦
          All-contains IsListedTie (map (moved (length rs)) (unit_ties 0 r)) x
          (All-map IsListedTie (moved (length rs)) (unit_ties 0 r) (All-weaker (Contains (unit_ties 0 r)) (λ y. IsListedTie (moved (length rs) y))
          (λ y y_in. ((unit_row y.from (table.from_in y y_in)).1, (unit_row y.to (table.to_in y y_in)).1)) (unit_ties 0 r) (All-contains_itself (unit_ties 0 r))))
          (subst (λ ts. Contains ts x) (sym (moved_unit (length rs) r)) h)
    ]

    all_in : {P : Tie → Type 0} (xs : List Tie) → ((x : Tie) → Contains xs x → P x) → All P xs
    all_in {P} xs h = All-weaker (Contains xs) P h xs (All-contains_itself xs)

    links_are : links ++ map (relinked whole) ulinks ≡ map (link_by new_index) (ties_of (rs ++ r ∷ []))
    links_are =
        let old : links ≡ map (link_by new_index) (ties_of rs) =
        k.links_are ∙ same_map (link_by (index_in find blocks)) (link_by new_index) (ties_of rs) (all_in {P = λ x. link_by (index_in find blocks) x ≡ link_by new_index x} (ties_of rs) old_tie) in
        let new : map (relinked whole) ulinks ≡ map (link_by new_index) (unit_ties (length rs) r) =
        ap (map (relinked whole)) walk.links_are ∙ map_map (link_by (index_by ufind ublocks)) (relinked whole) (unit_ties 0 r)
        ∙ same_map (λ x. relinked whole (link_by (index_by ufind ublocks) x)) (λ x. link_by new_index (moved (length rs) x)) (unit_ties 0 r)
        (all_in {P = λ x. relinked whole (link_by (index_by ufind ublocks) x) ≡ link_by new_index (moved (length rs) x)} (unit_ties 0 r) unit_tie)
        ∙ sym (map_map (moved (length rs)) (link_by new_index) (unit_ties 0 r)) ∙ ap (map (link_by new_index)) (moved_unit (length rs) r) in
        ap (λ ls. ls ++ map (relinked whole) ulinks) old ∙ ap (λ ls. map (link_by new_index) (ties_of rs) ++ ls) new
        ∙ sym (map-append (link_by new_index) (ties_of rs) (unit_ties (length rs) r)) ∙ sym (ap (map (link_by new_index)) (ties_of-push rs r))

    pub links_more : AreLinked (rs ++ r ∷ []) find' blocks (links ++ map (relinked whole) ulinks) new_rows
    links_more = record {
      links_are = links_are;
      from_in = λ x c. (tie_listed x c).0;
      to_in = λ x c. (tie_listed x c).1;
    }

-- a unit has as many numbers of rows as rows
pub many_whole : (r : Routine) (ufind ublocks : Text → Option ℕ) (dims : Text → Option (List Par)) (usizes : List ℕ) (ucount : ℕ) (urows : List Row) (labels : List Text) →
    AreListed r ufind ublocks dims usizes ucount urows → AreLabelled r labels ucount urows → (blocks : Text → Option ℕ) (base : ℕ) (whole : List ℕ) → AreWhole blocks labels base (length usizes - ucount) whole →
    length whole ≡ length usizes
many_whole r ufind ublocks dims usizes ucount urows labels l b blocks base whole w =
    let few = l.few in
    let many = l.many in
    let n = b.many in
    let v = w.many in
    omega (arith, few, many, n, v)
