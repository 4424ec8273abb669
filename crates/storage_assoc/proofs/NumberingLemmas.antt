-- The numbers that the rows give are those of the storage units.
use Rattle.std.proofs.Common.{◌≡◌, ◌<◌, ◌+◌, ◌↔◌, ℕ, pos, ◌-ℤ◌, Bool, true, false, ltb, List, length, slice_index, Option, None, Some, sym, ◌∙◌, ap, refl, subst}
use Rattle.std.proofs.lemmas.Bool.{lt-ltb, ltb-true}
use Rattle.f66_tree.specs.Syntax.{Text, Routine}
use Rattle.f66_program.specs.Association.{Row, Own, IsSame, IsReal, IsNumbering, ties_of}
use Rattle.offset_classes.specs.declared.link.Link.{Link}
use Rattle.offset_classes.specs.declared.link.Seat.{Seat}
use Rattle.offset_classes.specs.Links.{AreSeated}
use Rattle.offset_classes.specs.Numbers.{AreNumbered}
use Rattle.storage_assoc.specs.Indexing.{row_at, AreIndexed}
use Rattle.storage_assoc.specs.Numbering.{AreSized, number_in, number_by}
use Rattle.storage_assoc.proofs.BridgeLemmas.{numbers_same}

some_number : (sizes firsts : List ℕ) (o i : ℕ) → o < slice_index sizes i → number_in sizes firsts o (Some i) ≡ Some (slice_index firsts i + o)
some_number sizes firsts o i o_in = rw (lt-ltb o (slice_index sizes i) o_in) refl

number_some : (sizes firsts : List ℕ) (o i m : ℕ) (t : Bool) → ltb o (slice_index sizes i) ≡ t → number_in sizes firsts o (Some i) ≡ Some m → o < slice_index sizes i
number_some sizes firsts o i m true e n = ltb-true o (slice_index sizes i) e
number_some sizes firsts o i m false e n = (let q = rw e at n in cc)

module _ (rs : List Routine) (ls : List Link) (rows : List Row) (index : Row → ℕ) (blocks : ℕ) (find : ℕ → Text → Option ℕ) (seats : List Seat) (sizes firsts : List ℕ) (total : ℕ)
    (a : AreIndexed (ties_of rs) ls rows index blocks) (z : AreSized rs rows find sizes) (many : length seats ≡ length rows) (s : AreSeated ls seats) (n : AreNumbered seats sizes firsts total) where
  real_by : (u : ℕ) (x : Text) (o m : ℕ) (f : Option ℕ) → find u x ≡ f → number_in sizes firsts o f ≡ Some m → IsReal rs u x o
  real_by u x o m None e n = cc
  real_by u x o m (Some i) e n =
      let w = z.finds u x i e in
      let o_in = number_some sizes firsts o i m (ltb o (slice_index sizes i)) refl n in
      let v = z.only i o w.0 o_in in
      let same_row : Own v.0 v.1 ≡ Own u x = sym v.2 ∙ w.1 in
      let same_unit : v.0 ≡ u = cc in
      let same_name : v.1 ≡ x = cc in
      subst (λ y. IsReal rs u y o) same_name (subst (λ w. IsReal rs w v.1 o) same_unit v.3)

  is_number : (u : ℕ) (x : Text) (o i : ℕ) → find u x ≡ Some i → o < slice_index sizes i → number_by find sizes firsts u x o ≡ Some (slice_index firsts i + o)
  is_number u x o i e o_in = rw e (some_number sizes firsts o i o_in)

  below : (u : ℕ) (x : Text) (o : ℕ) → IsReal rs u x o → (m : ℕ) × (number_by find sizes firsts u x o ≡ Some m) × (m < total)
  below u x o r =
      let w = z.real u x o r in
      let f = z.finds u x w.0 w.1 in
      (slice_index firsts w.0 + o, is_number u x o w.0 w.1 w.2, n.below w.0 o (rw many f.0) w.2)

  onto : (m : ℕ) → m < total → (u : ℕ) × (x : Text) × (o : ℕ) × (number_by find sizes firsts u x o ≡ Some m)
  onto m m_in =
      let w = n.onto m m_in in
      let i_in : w.0 < length rows = subst (λ k. w.0 < k) many w.2 in
      let v = z.only w.0 w.1 i_in w.3 in
      let r = z.real v.0 v.1 w.1 v.3 in
      let f = z.finds v.0 v.1 r.0 r.1 in
      let same_row : r.0 ≡ w.0 = sym (a.numbered r.0 f.0) ∙ ap index (f.1 ∙ sym v.2) ∙ a.numbered w.0 i_in in
      (v.0, v.1, w.1, is_number v.0 v.1 w.1 r.0 r.1 r.2 ∙ ap Some (ap (λ i. slice_index firsts i + w.1) same_row ∙ w.4))

  same : (u : ℕ) (x : Text) (o v : ℕ) (y : Text) (p : ℕ) → IsReal rs u x o → IsReal rs v y p →
      (number_by find sizes firsts u x o ≡ number_by find sizes firsts v y p) ↔ IsSame (ties_of rs) (Own u x) (Own v y) (pos p -ℤ pos o)
  same u x o v y p r q =
      let c = z.real u x o r in
      let d = z.real v y p q in
      let f = z.finds u x c.0 c.1 in
      let g = z.finds v y d.0 d.1 in
      let h = numbers_same (ties_of rs) ls rows index blocks a seats sizes firsts total many s n c.0 d.0 o p f.0 g.0 c.2 d.2 in
      let one = is_number u x o c.0 c.1 c.2 in
      let other = is_number v y p d.0 d.1 d.2 in (
        (λ e.
            let e' : Some (slice_index firsts c.0 + o) ≡ Some (slice_index firsts d.0 + p) = sym one ∙ e ∙ other in
            let way = h.0 (cc) in
            subst (λ w. IsSame (ties_of rs) (Own u x) w (pos p -ℤ pos o)) g.1 (subst (λ w. IsSame (ties_of rs) w (row_at rows d.0) (pos p -ℤ pos o)) f.1 way)),
        (λ way.
            let way' = subst (λ w. IsSame (ties_of rs) (Own u x) w (pos p -ℤ pos o)) (sym g.1) way in
            one ∙ ap Some (h.1 (subst (λ w. IsSame (ties_of rs) w (row_at rows d.0) (pos p -ℤ pos o)) (sym f.1) way')) ∙ sym other),
      )

  pub are_units : IsNumbering rs (number_by find sizes firsts) total
  are_units = record {
    real = λ u x o m e. real_by u x o m (find u x) refl e;
    below = below;
    onto = onto;
    same = same;
  }
