-- Units that are well by themselves are well together: a way from place to place goes within one unit, or through one block into
-- another.
use Rattle.std.proofs.Common.{◌≡◌, ◌≢◌, ◌⊎◌, ℕ, ℤ, pos, ◌+ℤ◌, ◌<ℤ◌, neg_ℤ, List, Option, None, Some, sym, ◌∙◌, ap, refl, arith, inl, inr, subst, Bool, true, false}
use Rattle.std.proofs.lemmas.Int.{ints, by_lt_z}
use Rattle.std.proofs.lemmas.Bool.{cases_eq}
use Rattle.std.proofs.lemmas.Slice.Eq.{bytes_eq-Decides}
use Rattle.std.specs.Str.{bytes_eq}
use Rattle.std.specs.List.{Contains}
use Rattle.f66_tree.specs.Syntax.{Text}
use Rattle.f66_program.specs.Association.{Row, Own, Block, Tie, IsSame, by_tie, itself, back, onward, AreBad, twice, joined, before}

-- a row that ties of this unit may speak of
abbrev pub IsOwned : ℕ → Row → Type 0
IsOwned u (Own v x) = v ≡ u
IsOwned u (Block b) = Unit {0}

at : {ties : List Tie} {a b : Row} {d e : ℤ} → d ≡ e → IsSame ties a b d → IsSame ties a b e
at {ties} {a} {b} same h = subst (λ x. IsSame ties a b x) same h

-- from a row to a row: the same one, within a unit, or through a block
pub data Way (ties : ℕ → List Tie) (a b : Row) (d : ℤ) : Type 0 where
  none : a ≡ b → d ≡ pos 0 → Way ties a b d
  within : (u : ℕ) → IsOwned u a → IsOwned u b → IsSame (ties u) a b d → Way ties a b d
  across : (u v : ℕ) (x : Option Text) (d1 d2 : ℤ) → IsOwned u a → IsOwned v b → IsSame (ties u) a (Block x) d1 → IsSame (ties v) (Block x) b d2 → d ≡ d1 +ℤ d2 → Way ties a b d

cases_zero : (d : ℤ) → (d ≡ pos 0) ⊎ (d ≢ pos 0)
cases_zero d = by_lt_z d (pos 0) (λ l. inr (λ e. omega (arith, ints, l, e))) (λ l. by_lt_z (pos 0) d (λ m. inr (λ e. omega (arith, ints, m, e))) (λ m. inl (omega (arith, ints, l, m))))

by_text : (x y : Text) (t : Bool) → bytes_eq x y ≡ t → (Some x ≡ Some y) ⊎ (Some x ≢ Some y)
by_text x y true e = inl (ap Some ((bytes_eq-Decides x y).0 e))
by_text x y false e = inr (λ s. (let same : x ≡ y = cc in let q = (bytes_eq-Decides x y).1 same in cc))

module _ (ties : ℕ → List Tie) (good : (u : ℕ) → ¬ AreBad (ties u)) where
  -- within a unit two blocks are one, and at one offset
  one_block : (u : ℕ) (x y : Option Text) (d : ℤ) → IsSame (ties u) (Block x) (Block y) d → ¬ (x ≢ y)
  one_block u x y d h ne = good u (joined ne h)

  one_place : (u : ℕ) (a : Row) (d : ℤ) → IsSame (ties u) a a d → d ≡ pos 0
  one_place u a d h = elim (cases_zero d) [ inl e ↦ e | inr ne ↦ absurd (good u (twice ne h)) ]

  turned : {a b : Row} {d : ℤ} → Way ties a b d → Way ties b a (neg_ℤ d)
  turned (none e z) = none (sym e) (omega (arith, ints, z))
  turned (within u oa ob h) = within u ob oa (back h)
  turned (across u v x d1 d2 oa ob h k e) = across v u x (neg_ℤ d2) (neg_ℤ d1) ob oa (back k) (back h) (omega (arith, ints, e))

  cases_block : (x y : Option Text) → (x ≡ y) ⊎ (x ≢ y)
  cases_block None None = inl refl
  cases_block None (Some y) = inr (λ e. cc)
  cases_block (Some x) None = inr (λ e. cc)
  cases_block (Some x) (Some y) = by_text x y (bytes_eq x y) refl

  block_same : (u : ℕ) (x y : Option Text) (d : ℤ) → IsSame (ties u) (Block x) (Block y) d → (x ≡ y) × (d ≡ pos 0)
  block_same u x y d h = elim (cases_block x y) [
    | inl e ↦ (e, one_place u (Block x) d (subst (λ z. IsSame (ties u) (Block x) (Block z) d) (sym e) h))
    | inr ne ↦ absurd (one_block u x y d h ne)
  ]

  shared : (u v : ℕ) (b : Row) → IsOwned u b → IsOwned v b → u ≢ v → (y : Option Text) × (b ≡ Block y)
  shared u v (Own w x) e f ne = absurd (ne (sym e ∙ f))
  shared u v (Block y) e f ne = (y, refl)

  composed : {a b c : Row} {d e : ℤ} → Way ties a b d → Way ties b c e → Way ties a c (d +ℤ e)
  composed {a} {b} {c} {d} {e} (none p z) w = subst (λ x. Way ties x c (d +ℤ e)) (sym p) (subst (λ f. Way ties b c f) (omega (arith, ints, z)) w)
  composed {a} {b} {c} {d} {e} w (none p z) = subst (λ x. Way ties a x (d +ℤ e)) p (subst (λ f. Way ties a b f) (omega (arith, ints, z)) w)
  composed {a} {b} {c} {d} {e} (within u oa ob h) (within v ob' oc k) = elim (cases_eq u v) [
    | inl s ↦ within u oa (subst (λ w. IsOwned w c) (sym s) oc) (onward h (subst (λ w. IsSame (ties w) b c e) (sym s) k))
    | inr ne ↦
        let y = shared u v b ob ob' ne in
        across u v y.0 d e oa oc (subst (λ r. IsSame (ties u) a r d) y.1 h) (subst (λ r. IsSame (ties v) r c e) y.1 k) refl
  ]
  composed {a} {b} {c} {d} {e} (within u oa ob h) (across v w x d1 d2 ob' oc k l p) = elim (cases_eq u v) [
    | inl s ↦ across u w x (d +ℤ d1) d2 oa oc (onward h (subst (λ w. IsSame (ties w) b (Block x) d1) (sym s) k)) l (omega (arith, ints, p))
    | inr ne ↦
        let y = shared u v b ob ob' ne in
        let q = block_same v y.0 x d1 (subst (λ r. IsSame (ties v) r (Block x) d1) y.1 k) in
        across u w x d d2 oa oc (subst (λ r. IsSame (ties u) a r d) (y.1 ∙ ap Block q.0) h) l (omega (arith, ints, p, q.1))
  ]
  composed {a} {b} {c} {d} {e} (across u v x d1 d2 oa ob h k p) (within w ob' oc m) = elim (cases_eq v w) [
    | inl s ↦ across u w x d1 (d2 +ℤ e) oa oc h (onward (subst (λ w. IsSame (ties w) (Block x) b d2) s k) m) (omega (arith, ints, p))
    | inr ne ↦
        let y = shared v w b ob ob' ne in
        let q = block_same v x y.0 d2 (subst (λ r. IsSame (ties v) (Block x) r d2) y.1 k) in
        across u w x d1 e oa oc h (subst (λ r. IsSame (ties w) r c e) (y.1 ∙ ap Block (sym q.0)) m) (omega (arith, ints, p, q.1))
  ]
  composed {a} {b} {c} {d} {e} (across u v x d1 d2 oa ob h k p) (across w t y e1 e2 ob' oc m n r) = elim (cases_eq v w) [
    | inl s ↦
        let q = block_same w x y (d2 +ℤ e1) (onward (subst (λ w. IsSame (ties w) (Block x) b d2) s k) m) in
        across u t x d1 e2 oa oc h (subst (λ z. IsSame (ties t) (Block z) c e2) (sym q.0) n) (omega (arith, ints, p, r, q.1))
    | inr ne ↦
        let z = shared v w b ob ob' ne in
        let q = block_same v x z.0 d2 (subst (λ r. IsSame (ties v) (Block x) r d2) z.1 k) in
        let o = block_same w z.0 y e1 (subst (λ r. IsSame (ties w) r (Block y) e1) z.1 m) in
        across u t x d1 e2 oa oc h (subst (λ z. IsSame (ties t) (Block z) c e2) (sym (q.0 ∙ o.0)) n) (omega (arith, ints, p, r, q.1, o.1))
  ]

  module _ (whole : List Tie) (owned : (u : ℕ) (t : Tie) → Contains (ties u) t → IsOwned u t.from × IsOwned u t.to)
      (parts : (t : Tie) → Contains whole t → (u : ℕ) × Contains (ties u) t) where
    pub way_of : {a b : Row} {d : ℤ} → IsSame whole a b d → Way ties a b d
    way_of (by_tie t c) = (let p = parts t c in let o = owned p.0 t p.1 in within p.0 o.0 o.1 (by_tie t p.1))
    way_of (itself a) = none refl refl
    way_of (back h) = turned (way_of h)
    way_of (onward h k) = composed (way_of h) (way_of k)

    way_itself : {a : Row} {d : ℤ} → Way ties a a d → d ≡ pos 0
    way_itself (none e z) = z
    way_itself {a} {d} (within u oa ob h) = one_place u a d h
    way_itself {a} {d} (across u v x d1 d2 oa ob h k p) = elim (cases_eq u v) [
      | inl s ↦ one_place v a d (at (sym p) (onward (subst (λ w. IsSame (ties w) a (Block x) d1) s h) k))
      | inr ne ↦
          let y = shared u v a oa ob ne in
          let q = block_same u y.0 x d1 (subst (λ r. IsSame (ties u) r (Block x) d1) y.1 h) in
          let o = block_same v x y.0 d2 (subst (λ r. IsSame (ties v) (Block x) r d2) y.1 k) in
          omega (arith, ints, p, q.1, o.1)
    ]

    way_blocks : {a b : Option Text} {d : ℤ} → Way ties (Block a) (Block b) d → a ≡ b
    way_blocks (none e z) = cc
    way_blocks {a} {b} {d} (within u oa ob h) = (block_same u a b d h).0
    way_blocks {a} {b} {d} (across u v x d1 d2 oa ob h k p) = (block_same u a x d1 h).0 ∙ (block_same v x b d2 k).0

    way_before : {a : Row} {b : Option Text} {d : ℤ} → d <ℤ pos 0 → ¬ Way ties a (Block b) d
    way_before less (none e z) = absurd (omega (arith, ints, less, z))
    way_before less (within u oa ob h) = good u (before less h)
    way_before {a} {b} {d} less (across u v x d1 d2 oa ob h k p) =
        let o = block_same v x b d2 k in
        good u (before (omega (arith, ints, less, p, o.1)) h)

    -- units that are well are well together
    pub whole_good : ¬ AreBad whole
    whole_good (twice ne h) = ne (way_itself (way_of h))
    whole_good (joined ne h) = ne (way_blocks (way_of h))
    whole_good (before less h) = way_before less (way_of h)
