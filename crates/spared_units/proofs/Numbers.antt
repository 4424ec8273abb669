-- Numbers for the storage units of units with spare variables: those of the other units, and one more for each spare variable, which
-- no other place has.
use Rattle.std.proofs.Common.{◌≡◌, ◌≢◌, ◌<◌, ◌+◌, inl, inr, ℕ, suc, ℤ, pos, ◌-ℤ◌, Bool, true, false, true≢false, List, [], ◌∷◌, Option, None, Some, refl, sym, ap, ◌∙◌, subst, arith}
use Rattle.std.specs.Prelude.{◌↔◌, if◌then◌else◌}
use Rattle.std.specs.List.{slice_get}
use Rattle.std.specs.Str.{bytes_eq}
use Rattle.std.proofs.lemmas.Int.{ints}
use Rattle.std.proofs.lemmas.List.Elements.{All-contains}
use Rattle.std.proofs.lemmas.Slice.Eq.{bytes_eq-Decides}
use Rattle.f66_tree.specs.Syntax.{Text}
use Rattle.f66_program.specs.Mentions.{context_of}
use Rattle.f66_program.specs.Association.{Row, Own, Tie, IsSame, itself, not_filled, unit_ties, ties_from, ties_of, IsReal, IsNumbering}
use Rattle.f66_program.proofs.WholeLemmas.{IsOwned}
use Rattle.f66_program.proofs.TieLemmas.{IsOwnTie, own_lines}
use Rattle.spared_units.specs.Spared.{mentions_of_lines, Lacks, Pair, said_units, made_units}
use Rattle.spared_units.proofs.Among.{Among, among, contained, split, some_of}
use Rattle.spared_units.proofs.Places.{IsSpareAt, real_back}
use Rattle.spared_units.proofs.Blocks.{alone, AreOtherRows, lines_other, other_row, lacks}
use Rattle.spared_units.proofs.Programs.{tied}
use Rattle.spared_units.proofs.Limit.{spare_place, one_spare}

module _ (ps : List Pair) where
  -- ---- a spare variable is tied to nothing ----

  module _ (u : ℕ) (y : Text) (sp : IsSpareAt ps u y) where
    abbrev IsApart : Tie → Type 0
    IsApart t = (t.from ≢ Own u y) × (t.to ≢ Own u y)

    tie_apart : (w : ℕ) (p : Pair) → slice_get ps w ≡ Some p → (t : Tie) → Among (unit_ties w p.said) t → IsApart t
    tie_apart w p here t k =
        let owned = All-contains (IsOwnTie w) (unit_ties w p.said) t (own_lines w (context_of p.said) not_filled p.said.lines) (contained (unit_ties w p.said) t k) in
        (λ e. other_row y (context_of p.said) u t.from (rows (subst (IsOwned w) e owned.0) t k).0 e, λ e. other_row y (context_of p.said) u t.to (rows (subst (IsOwned w) e owned.1) t k).1 e)
      where
        rows : u ≡ w → AreOtherRows y (context_of p.said) (unit_ties w p.said)
        rows same =
            let pair : p ≡ sp.pair = some_of p sp.pair (sym here ∙ ap (slice_get ps) (sym same) ∙ sp.here) in
            let l : Lacks p.said y = lacks p.said p.spare y (ap (λ q. q.spare) pair ∙ sp.is) p.spared.lacks in
            lines_other y (context_of p.said) w not_filled p.said.lines (λ m i. l.mentioned (context_of p.said) m (contained (mentions_of_lines (context_of p.said) p.said.lines) m i))

    all_apart : (qs : List Pair) (w : ℕ) → ((i : ℕ) (p : Pair) → slice_get qs i ≡ Some p → slice_get ps (w + i) ≡ Some p) → (t : Tie) → Among (ties_from w (said_units qs)) t → IsApart t
    all_apart [] w at t k = absurd k
    all_apart (q ∷ qs) w at t k = elim (split (unit_ties w q.said) (ties_from (suc w) (said_units qs)) t k) [
      | inl a ↦ (let e : w + 0 ≡ w = omega arith in tie_apart w q (subst (λ n. slice_get ps n ≡ Some q) e (at 0 q refl)) t a)
      | inr b ↦ all_apart qs (suc w) (λ i p here. let e : w + suc i ≡ suc w + i = omega arith in subst (λ n. slice_get ps n ≡ Some p) e (at (suc i) p here)) t b
    ]

    pub alone_there : {a b : Row} {d : ℤ} → IsSame (ties_of (made_units ps)) a b d → (a ≡ Own u y → b ≡ Own u y) × (b ≡ Own u y → a ≡ Own u y)
    alone_there {a} {b} {d} h =
        alone (Own u y) (ties_of (said_units ps))
        (λ t c. all_apart ps 0 (λ i p here. let e : i ≡ 0 + i = omega arith in subst (λ n. slice_get ps n ≡ Some p) e here) t (among (ties_of (said_units ps)) t c))
        (subst (λ ts. IsSame ts a b d) (tied ps) h)

  -- ---- whether a name is the spare one of a unit ----

  abbrev is_name : Option Text → Text → Bool
  is_name None x = false
  is_name (Some y) x = bytes_eq y x

  abbrev is_spare_of : Option Pair → Text → Bool
  is_spare_of None x = false
  is_spare_of (Some p) x = is_name p.spare x

  abbrev spare_at : ℕ → Text → Bool
  spare_at u x = is_spare_of (slice_get ps u) x

  spare_there : (u : ℕ) (x : Text) → spare_at u x ≡ true → IsSpareAt ps u x
  spare_there u x e = by_pair (slice_get ps u) refl e
    where
      by_name : (p : Pair) → slice_get ps u ≡ Some p → (o : Option Text) → p.spare ≡ o → is_name o x ≡ true → IsSpareAt ps u x
      by_name p here None is e = absurd (true≢false (sym e))
      by_name p here (Some y) is e = record { pair = p; here = here; is = is ∙ ap Some ((bytes_eq-Decides y x).0 e) }

      by_pair : (o : Option Pair) → slice_get ps u ≡ o → is_spare_of o x ≡ true → IsSpareAt ps u x
      by_pair None here e = absurd (true≢false (sym e))
      by_pair (Some p) here e = by_name p here p.spare refl e

  there_spare : (u : ℕ) (x : Text) → IsSpareAt ps u x → spare_at u x ≡ true
  there_spare u x sp = ap (λ o. is_spare_of o x) sp.here ∙ ap (λ o. is_name o x) sp.is ∙ (bytes_eq-Decides x x).1 refl

  -- ---- numbers ----

  module _ (other : ℕ → Text → ℕ → Option ℕ) (total : ℕ) (w : IsNumbering (said_units ps) other total) where
    abbrev one_more : Option ℕ → ℕ
    one_more None = 0
    one_more (Some k) = suc k

    -- what is no place has the number 0, and a spare variable one behind all others
    abbrev pub spared_number : ℕ → Text → ℕ → ℕ
    spared_number u x o = if spare_at u x then suc (total + u) else one_more (other u x o)

    below : (u : ℕ) (x : Text) (o k : ℕ) → other u x o ≡ Some k → k < total
    below u x o k is = let b = w.below u x o (w.real u x o k is) in subst (λ n. n < total) (some_of b.0 k (sym b.1 ∙ is)) b.2

    not_behind : (u v : ℕ) (x : Text) (o : ℕ) → one_more (other v x o) ≡ suc (total + u) → ⊥
    not_behind u v x o e = by_number (other v x o) refl e
      where
        by_number : (k : Option ℕ) → other v x o ≡ k → one_more k ≡ suc (total + u) → ⊥
        by_number None is e = omega (arith, e)
        by_number (Some k) is e = let lt = below v x o k is in omega (arith, lt, e)

    pub spare_apart : (u : ℕ) (y : Text) → IsSpareAt ps u y → (v : ℕ) (x : Text) (o : ℕ) → spared_number v x o ≡ spared_number u y 0 → (v ≡ u) × (x ≡ y)
    spare_apart u y sp v x o e = by_name (spare_at v x) refl (e ∙ ap (λ b. if b then suc (total + u) else one_more (other u y 0)) (there_spare u y sp))
      where
        by_name : (b : Bool) → spare_at v x ≡ b → (if b then suc (total + v) else one_more (other v x o)) ≡ suc (total + u) → (v ≡ u) × (x ≡ y)
        by_name true is e = let same : v ≡ u = omega (arith, e) in (same, one_spare ps v u x y same (spare_there v x is) sp)
        by_name false is e = absurd (not_behind u v x o e)

    -- a place that is no spare variable's is one of the other units
    said_place : (u : ℕ) (x : Text) (o : ℕ) → IsReal (made_units ps) u x o → spare_at u x ≡ false → IsReal (said_units ps) u x o
    said_place u x o r e = elim (real_back ps u x o r) [ inl sp ↦ absurd (true≢false (sym (there_spare u x sp) ∙ e)) | inr real ↦ real ]

    same_row : (u : ℕ) (x : Text) (v : ℕ) (y : Text) → Own u x ≡ Own v y → (u ≡ v) × (x ≡ y)
    same_row u x v y e = (cc, cc)

    same_test : (u : ℕ) (x : Text) (v : ℕ) (y : Text) → Own u x ≡ Own v y → spare_at u x ≡ spare_at v y
    same_test u x v y e = let k = same_row u x v y e in ap (λ n. spare_at n x) k.0 ∙ ap (spare_at v) k.1

    module _ (u : ℕ) (x : Text) (o v : ℕ) (y : Text) (q : ℕ) (r : IsReal (made_units ps) u x o) (r' : IsReal (made_units ps) v y q) where
      abbrev IsOne : Type 0
      IsOne = IsSame (ties_of (made_units ps)) (Own u x) (Own v y) (pos q -ℤ pos o)

      both_spare : IsSpareAt ps u x → IsSpareAt ps v y → (suc (total + u) ≡ suc (total + v)) ↔ IsOne
      both_spare a b = (forth, λ s. let k = same_row v y u x ((alone_there u x a s).0 refl) in ap (λ n. suc (total + n)) (sym k.0))
        where
          forth : suc (total + u) ≡ suc (total + v) → IsOne
          forth e =
              let same : u ≡ v = omega (arith, e) in
              let first : o ≡ 0 = spare_place ps u x o r a in
              let second : q ≡ 0 = spare_place ps v y q r' b in
              let none : pos 0 ≡ pos q -ℤ pos o = omega (arith, ints, first, second) in
              subst (λ row. IsSame (ties_of (made_units ps)) (Own u x) row (pos q -ℤ pos o)) (ap (λ n. Own n x) same ∙ ap (Own v) (one_spare ps u v x y same a b))
              (subst (λ d. IsSame (ties_of (made_units ps)) (Own u x) (Own u x) d) none (itself (Own u x)))

      none_spare : IsReal (said_units ps) u x o → IsReal (said_units ps) v y q → (one_more (other u x o) ≡ one_more (other v y q)) ↔ IsOne
      none_spare a b =
          let k = w.same u x o v y q a b in
          (λ e. subst (λ ts. IsSame ts (Own u x) (Own v y) (pos q -ℤ pos o)) (sym (tied ps)) (k.0 (same_option e)), λ s. ap one_more (k.1 (subst (λ ts. IsSame ts (Own u x) (Own v y) (pos q -ℤ pos o)) (tied ps) s)))
        where
          same_option : one_more (other u x o) ≡ one_more (other v y q) → other u x o ≡ other v y q
          same_option e =
              let m = w.below u x o a in
              let n = w.below v y q b in
              let next : suc m.0 ≡ suc n.0 = sym (ap one_more m.1) ∙ e ∙ ap one_more n.1 in
              let same : m.0 ≡ n.0 = omega (arith, next) in
              m.1 ∙ ap Some same ∙ sym n.1

      by_names : (a : Bool) → spare_at u x ≡ a → (b : Bool) → spare_at v y ≡ b → ((if a then suc (total + u) else one_more (other u x o)) ≡ (if b then suc (total + v) else one_more (other v y q))) ↔ IsOne
      by_names true e true f = both_spare (spare_there u x e) (spare_there v y f)
      by_names true e false f =
          (λ k. absurd (not_behind u v y q (sym k)), λ s. absurd (true≢false (sym e ∙ sym (same_test v y u x ((alone_there u x (spare_there u x e) s).0 refl)) ∙ f)))
      by_names false e true f =
          (λ k. absurd (not_behind v u x o k), λ s. absurd (true≢false (sym f ∙ sym (same_test u x v y ((alone_there v y (spare_there v y f) s).1 refl)) ∙ e)))
      by_names false e false f = none_spare (said_place u x o r e) (said_place v y q r' f)

      -- two places have one number exactly where they are one storage unit
      pub spared_same : (spared_number u x o ≡ spared_number v y q) ↔ IsOne
      spared_same = by_names (spare_at u x) refl (spare_at v y) refl
