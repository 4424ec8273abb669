-- Ties between rows and links between their numbers say the same.
use Rattle.std.proofs.Common.{◌≡◌, ◌<◌, ◌+◌, ◌⊎◌, ◌↔◌, ℕ, ℤ, pos, ◌-ℤ◌, List, length, map, slice_index, sym, ◌∙◌, ap, refl, arith, inl, inr, subst}
use Rattle.std.proofs.lemmas.Int.{ints}
use Rattle.std.proofs.lemmas.List.{get_or-map, length-map}
use Rattle.std.proofs.lemmas.List.Elements.{All-contains, All-map, All-weaker, All-contains_itself}
use Rattle.std.specs.List.{Contains}
use Rattle.f66_program.specs.Association.{Row, Block, Tie, IsSame, by_tie, itself, back, onward, AreBad, twice, joined, before}
use Rattle.offset_classes.specs.declared.link.Link.{Link}
use Rattle.offset_classes.specs.declared.link.Seat.{Seat}
use Rattle.offset_classes.specs.Links.{IsLinked, IsClash, IsBad, AreSeated}
use Rattle.offset_classes.specs.Numbers.{AreNumbered}
use Rattle.offset_classes.specs.Links as links
use Rattle.storage_assoc.specs.Indexing.{row_at, link_by, IsListed, AreIndexed}

pub Contains-map : {X Y : Type 0} (f : X → Y) (xs : List X) (x : X) → Contains xs x → Contains (map f xs) (f x)
Contains-map f xs x c = (c.0, rw length-map c.1, get_or-map f xs c.0 x (f x) c.1 ∙ ap f c.2)

Contains-from_map : {X Y : Type 0} (f : X → Y) (xs : List X) (y : Y) → Contains (map f xs) y → (x : X) × Contains xs x × (f x ≡ y)
Contains-from_map {X} {Y} f xs y c =
    let P : Y → Type 0 = λ y. (x : X) × Contains xs x × (f x ≡ y) in
    All-contains P (map f xs) y (All-map P f xs (All-weaker (Contains xs) (λ x. P (f x)) (λ x c. (x, c, refl)) xs (All-contains_itself xs))) c

module _ (ties : List Tie) (ls : List Link) (rows : List Row) (index : Row → ℕ) (blocks : ℕ) (a : AreIndexed ties ls rows index blocks) where
  pub linked : {x y : Row} {d : ℤ} → IsSame ties x y d → IsLinked ls (index x) (index y) d
  linked (by_tie t c) = links.by_link (link_by index t) (subst (λ l. Contains l (link_by index t)) (sym a.links_are) (Contains-map (link_by index) ties t c))
  linked (itself x) = links.itself (index x)
  linked (back h) = links.back (linked h)
  linked (onward h k) = links.onward (linked h) (linked k)

  same_by_link : (l : Link) → Contains ls l → IsSame ties (row_at rows l.from) (row_at rows l.to) l.by
  same_by_link l c =
      let w = Contains-from_map (link_by index) ties l (subst (λ ls. Contains ls l) a.links_are c) in
      let t = w.0 in
      let s : IsSame ties (row_at rows (link_by index t).from) (row_at rows (link_by index t).to) (link_by index t).by =
      subst (λ x. IsSame ties x (row_at rows (index t.to)) t.by) (sym (a.from_in t w.1).back) (subst (λ y. IsSame ties t.from y t.by) (sym (a.to_in t w.1).back) (by_tie t w.1)) in
      subst (λ (l : Link). IsSame ties (row_at rows l.from) (row_at rows l.to) l.by) w.2 s

  pub same : {i j : ℕ} {d : ℤ} → IsLinked ls i j d → IsSame ties (row_at rows i) (row_at rows j) d
  same (links.by_link l c) = same_by_link l c
  same (links.itself i) = itself (row_at rows i)
  same (links.back h) = back (same h)
  same (links.onward h k) = onward (same h) (same k)

  -- rows that are tied have numbers
  pub present : {x y : Row} {d : ℤ} → IsSame ties x y d → ((x ≡ y) × (d ≡ pos 0)) ⊎ (IsListed rows index x × IsListed rows index y)
  present (by_tie t c) = inr (a.from_in t c, a.to_in t c)
  present (itself x) = inl (refl, refl)
  present (back h) = elim (present h) [ inl w ↦ inl (sym w.0, omega (arith, ints, w.1)) | inr w ↦ inr (w.1, w.0) ]
  present (onward h k) = elim (present h) [
    | inl v ↦ elim (present k) [
      | inl w ↦ inl (v.0 ∙ w.0, omega (arith, ints, v.1, w.1))
      | inr w ↦ inr (subst (IsListed rows index) (sym v.0) w.0, w.1)
    ]
    | inr v ↦ elim (present k) [
      | inl w ↦ inr (v.0, subst (IsListed rows index) w.0 v.1)
      | inr w ↦ inr (v.0, w.1)
    ]
  ]

  listed_apart : (x y : Row) → IsListed rows index x → IsListed rows index y → index x ≡ index y → x ≡ y
  listed_apart x y lx ly e = sym lx.back ∙ ap (row_at rows) e ∙ ly.back

  pub bad_links : AreBad ties → IsBad blocks ls
  bad_links (twice ne h) = links.clashes (record { node = _; by = _; other = ne; linked = linked h })
  bad_links (joined {a = x} {b = y} ne h) = elim (present h) [
    | inl w ↦ absurd (ne (let e = w.0 in cc))
    | inr w ↦ links.meets (a.blocks_first x w.0) (a.blocks_first y w.1) (λ e. (let q = listed_apart (Block x) (Block y) w.0 w.1 e in ne (cc))) (linked h)
  ]
  bad_links (before {b = b} less h) = elim (present h) [
    | inl w ↦ absurd (omega (arith, ints, less, w.1))
    | inr w ↦ links.before (a.blocks_first b w.1) less (linked h)
  ]

  pub bad_ties : IsBad blocks ls → AreBad ties
  bad_ties (links.clashes c) = twice c.other (same c.linked)
  bad_ties (links.meets {a = x} {b = y} {d = d} x_in y_in ne way) =
      let v = a.first x x_in in
      let w = a.first y y_in in
      joined (λ e. ne (sym (a.numbered x (let f = a.few in omega arith)) ∙ ap index (v.1 ∙ ap Block e ∙ sym w.1) ∙ a.numbered y (let f = a.few in omega arith)))
      (subst (λ r. IsSame ties (Block v.0) r d) w.1 (subst (λ r. IsSame ties r (row_at rows y) d) v.1 (same way)))
  bad_ties (links.before {a = y} {x = x} {d = d} y_in less way) =
      let w = a.first y y_in in
      before less (subst (λ r. IsSame ties (row_at rows x) r d) w.1 (same way))

  -- places have one number exactly where they are one
  module _ (seats : List Seat) (sizes firsts : List ℕ) (total : ℕ) (many : length seats ≡ length rows) (s : AreSeated ls seats) (n : AreNumbered seats sizes firsts total) where
    pub numbers_same : (i j o p : ℕ) → i < length rows → j < length rows → o < slice_index sizes i → p < slice_index sizes j →
        (slice_index firsts i + o ≡ slice_index firsts j + p) ↔ IsSame ties (row_at rows i) (row_at rows j) (pos p -ℤ pos o)
    numbers_same i j o p i_in j_in o_in p_in =
        let h = n.same i j o p (rw many i_in) (rw many j_in) o_in p_in in (
          (λ e.
              let w = h.0 e in
              let way = same (s.sound i j (rw many i_in) (rw many j_in) w.0) in
              subst (λ d. IsSame ties (row_at rows i) (row_at rows j) d) (omega (arith, ints, w.1)) way),
          (λ way.
              let l = linked way in
              let l' = subst (λ x. IsLinked ls x (index (row_at rows j)) (pos p -ℤ pos o)) (a.numbered i i_in) l in
              let l'' = subst (λ y. IsLinked ls i y (pos p -ℤ pos o)) (a.numbered j j_in) l' in
              let w = s.whole i j (pos p -ℤ pos o) l'' in
              h.1 (w.0, omega (arith, ints, w.1))),
        )
