-- The places of a unit with a spare variable: those of the other, and one of the spare variable.
use Rattle.std.proofs.Common.{◌≡◌, ◌<◌, ◌⊎◌, inl, inr, ℕ, zero, suc, Bool, true, false, true≢false, List, [], ◌∷◌, Option, None, Some, refl, sym, ap, ◌∙◌, subst}
use Rattle.std.specs.Prelude.{not, ◌&&◌, ◌||◌}
use Rattle.std.specs.List.{list_any, slice_get}
use Rattle.std.specs.Str.{bytes_eq}
use Rattle.std.proofs.lemmas.Slice.Eq.{bytes_eq-Decides}
use Rattle.f66_tree.specs.Syntax.{Text, Routine}
use Rattle.f66_tree.specs.Units.{notes_of, places_of}
use Rattle.f66_program.specs.Mentions.{Mention, context_of, mentioned, is_variable, is_function, is_dummy, is_own_value, declares, has_places}
use Rattle.f66_program.specs.Association.{IsReal, size_in}
use Rattle.spared_units.specs.Spared.{with_spare, is_spare, Spared, Pair, said_units, made_units}
use Rattle.spared_units.proofs.Among.{some_of}
use Rattle.spared_units.proofs.Units.{noted, declares_noted, mentioned_some, some_mentioned, same_sizes, heard, told, declared_too}

-- ---- truth values ----

abbrev has : Bool → Bool → Bool → Bool → Bool → Bool
has dummy own there declared called = not dummy && (own || (there || (declared && not called)))

more : (d o m l f m' l' f' : Bool) → (m ≡ true → m' ≡ true) → (l ≡ true → l' ≡ true) → (f' ≡ true → f ≡ true) → has d o m l f ≡ true → has d o m' l' f' ≡ true
more true o m l f m' l' f' up into back e = e
more false true m l f m' l' f' up into back e = refl
more false false true l f m' l' f' up into back e = ap (λ b. b || (l' && not f')) (up refl)
more false false false false f m' l' f' up into back e = absurd (true≢false (sym e))
more false false false true true m' l' f' up into back e = absurd (true≢false (sym e))
more false false false true false true l' f' up into back e = refl
more false false false true false false l' true up into back e = absurd (true≢false (sym (back refl)))
more false false false true false false l' false up into back e = ap (λ b. b && true) (into refl)

either_way : {P : Type 0} (d o m l f m' l' f' : Bool) → (m ≡ true → P ⊎ (m' ≡ true)) → (l ≡ true → P ⊎ (l' ≡ true)) → (f' ≡ true → f ≡ true) → has d o m l f ≡ true → P ⊎ (has d o m' l' f' ≡ true)
either_way true o m l f m' l' f' up into back e = absurd (true≢false (sym e))
either_way false true m l f m' l' f' up into back e = inr refl
either_way false false true l f m' l' f' up into back e = elim (up refl) [ inl p ↦ inl p | inr t ↦ inr (ap (λ b. b || (l' && not f')) t) ]
either_way false false false false f m' l' f' up into back e = absurd (true≢false (sym e))
either_way false false false true true m' l' f' up into back e = absurd (true≢false (sym e))
either_way false false false true false true l' f' up into back e = inr refl
either_way false false false true false false l' true up into back e = absurd (true≢false (sym (back refl)))
either_way false false false true false false l' false up into back e = elim (into refl) [ inl p ↦ inl p | inr t ↦ inr (ap (λ b. b && true) t) ]

-- ---- one unit ----

module _ (spare : Option Text) (s r : Routine) (h : Spared spare s r) (q : Text) where
  -- where a name is tested that is no spare one
  spare_named : (o : Option Text) (m : Mention) → is_spare o m → is_variable q m ≡ true → o ≡ Some q
  spare_named None m k e = absurd k
  spare_named (Some y) m k e = ap Some (sym ((bytes_eq-Decides q y).0 (ap (is_variable q) (sym k) ∙ e)))

  spare_calls : (o : Option Text) (m : Mention) → is_spare o m → is_function q m ≡ true → ⊥
  spare_calls None m k e = absurd k
  spare_calls (Some y) m k e = true≢false (sym (ap (is_function q) (sym k) ∙ e))

  there_too : mentioned (is_variable q) (context_of s) s.lines ≡ true → mentioned (is_variable q) (context_of r) r.lines ≡ true
  there_too e = let m = mentioned_some (is_variable q) (context_of s) s.lines e in some_mentioned (is_variable q) (context_of r) r.lines m.0 (told spare s r h m.0 m.1) m.2

  called_too : mentioned (is_function q) (context_of s) s.lines ≡ true → mentioned (is_function q) (context_of r) r.lines ≡ true
  called_too e = let m = mentioned_some (is_function q) (context_of s) s.lines e in some_mentioned (is_function q) (context_of r) r.lines m.0 (told spare s r h m.0 m.1) m.2

  there_back : mentioned (is_variable q) (context_of r) r.lines ≡ true → (spare ≡ Some q) ⊎ (mentioned (is_variable q) (context_of s) s.lines ≡ true)
  there_back e =
      let m = mentioned_some (is_variable q) (context_of r) r.lines e in
      elim (heard spare s r h m.0 m.1) [ inl k ↦ inl (spare_named spare m.0 k m.2) | inr k ↦ inr (some_mentioned (is_variable q) (context_of s) s.lines m.0 k m.2) ]

  called_back : mentioned (is_function q) (context_of r) r.lines ≡ true → mentioned (is_function q) (context_of s) s.lines ≡ true
  called_back e =
      let m = mentioned_some (is_function q) (context_of r) r.lines e in
      elim (heard spare s r h m.0 m.1) [ inl k ↦ absurd (spare_calls spare m.0 k m.2) | inr k ↦ some_mentioned (is_function q) (context_of s) s.lines m.0 k m.2 ]

  declared_back : list_any (λ t. declares q t.act) r.lines ≡ true → (spare ≡ Some q) ⊎ (list_any (λ t. declares q t.act) s.lines ≡ true)
  declared_back e = by_spare spare (sym (ap (list_any (λ n. declares q n.act)) h.notes) ∙ sym (noted (declares q) (declares_noted q) r.lines) ∙ e)
    where
      by_name : (y : Text) (v w : Bool) → bytes_eq q y ≡ v → ((v || false) || w) ≡ true → (Some y ≡ Some q) ⊎ (w ≡ true)
      by_name y true w e k = inl (ap Some (sym ((bytes_eq-Decides q y).0 e)))
      by_name y false w e k = inr k

      by_spare : (o : Option Text) → list_any (λ n. declares q n.act) (with_spare o (notes_of s.lines)) ≡ true → (o ≡ Some q) ⊎ (list_any (λ t. declares q t.act) s.lines ≡ true)
      by_spare None k = inr (noted (declares q) (declares_noted q) s.lines ∙ k)
      by_spare (Some y) k = elim (by_name y (bytes_eq q y) (list_any (λ n. declares q n.act) (notes_of s.lines)) refl k) [
        | inl a ↦ inl a
        | inr b ↦ inr (noted (declares q) (declares_noted q) s.lines ∙ b)
      ]

  -- a name with places in s has places in r
  pub places_too : has_places s q ≡ true → has_places r q ≡ true
  places_too e =
      subst (λ k. has (is_dummy q k) (is_own_value q k) (mentioned (is_variable q) (context_of r) r.lines) (list_any (λ t. declares q t.act) r.lines) (mentioned (is_function q) (context_of r) r.lines) ≡ true) (sym h.header)
      (more (is_dummy q s.header) (is_own_value q s.header) _ _ _ _ _ _ there_too (declared_too spare s r h q) called_back e)

  -- and one with places in r is the spare one, or has places in s
  pub places_back : has_places r q ≡ true → (spare ≡ Some q) ⊎ (has_places s q ≡ true)
  places_back e =
      either_way (is_dummy q s.header) (is_own_value q s.header) _ _ _ _ _ _ there_back declared_back called_too
      (subst (λ k. has (is_dummy q k) (is_own_value q k) (mentioned (is_variable q) (context_of r) r.lines) (list_any (λ t. declares q t.act) r.lines) (mentioned (is_function q) (context_of r) r.lines) ≡ true) h.header e)

  pub same_size : size_in (context_of r) q ≡ size_in (context_of s) q
  same_size = ap places_of (same_sizes spare s r h q)

-- ---- programs ----

-- the pair of a unit
pub pair_made : (ps : List Pair) (u : ℕ) (r : Routine) → slice_get (made_units ps) u ≡ Some r → (p : Pair) × (slice_get ps u ≡ Some p) × (p.made ≡ r)
pair_made [] u r e = absurd (cc)
pair_made (p ∷ ps) zero r e = (p, refl, some_of p.made r e)
pair_made (p ∷ ps) (suc u) r e = pair_made ps u r e

pub pair_said : (ps : List Pair) (u : ℕ) (s : Routine) → slice_get (said_units ps) u ≡ Some s → (p : Pair) × (slice_get ps u ≡ Some p) × (p.said ≡ s)
pair_said [] u s e = absurd (cc)
pair_said (p ∷ ps) zero s e = (p, refl, some_of p.said s e)
pair_said (p ∷ ps) (suc u) s e = pair_said ps u s e

pub made_at : (ps : List Pair) (u : ℕ) (p : Pair) → slice_get ps u ≡ Some p → slice_get (made_units ps) u ≡ Some p.made
made_at [] u p e = absurd (cc)
made_at (q ∷ ps) zero p e = ap (λ k. Some k.made) (some_of q p e)
made_at (q ∷ ps) (suc u) p e = made_at ps u p e

pub said_at : (ps : List Pair) (u : ℕ) (p : Pair) → slice_get ps u ≡ Some p → slice_get (said_units ps) u ≡ Some p.said
said_at [] u p e = absurd (cc)
said_at (q ∷ ps) zero p e = ap (λ k. Some k.said) (some_of q p e)
said_at (q ∷ ps) (suc u) p e = said_at ps u p e

-- a place of the spare variable of a unit
pub record IsSpareAt (ps : List Pair) (u : ℕ) (x : Text) : Type 0 where
  pub pair : Pair
  pub here : slice_get ps u ≡ Some pair
  pub is : pair.spare ≡ Some x

module _ (ps : List Pair) where
  pub real_too : (u : ℕ) (x : Text) (o : ℕ) → IsReal (said_units ps) u x o → IsReal (made_units ps) u x o
  real_too u x o k =
      let p = pair_said ps u k.unit k.here in
      let named : has_places p.0.said x ≡ true = subst (λ s. has_places s x ≡ true) (sym p.2) k.named in
      let inside : o < size_in (context_of p.0.said) x = subst (λ s. o < size_in (context_of s) x) (sym p.2) k.inside in
      record {
        unit = p.0.made;
        here = made_at ps u p.0 p.1;
        named = places_too p.0.spare p.0.said p.0.made p.0.spared x named;
        inside = subst (λ n. o < n) (sym (same_size p.0.spare p.0.said p.0.made p.0.spared x)) inside;
      }

  pub real_back : (u : ℕ) (x : Text) (o : ℕ) → IsReal (made_units ps) u x o → IsSpareAt ps u x ⊎ IsReal (said_units ps) u x o
  real_back u x o k =
      let p = pair_made ps u k.unit k.here in
      let named : has_places p.0.made x ≡ true = subst (λ s. has_places s x ≡ true) (sym p.2) k.named in
      let inside : o < size_in (context_of p.0.made) x = subst (λ s. o < size_in (context_of s) x) (sym p.2) k.inside in
      elim (places_back p.0.spare p.0.said p.0.made p.0.spared x named) [
        | inl e ↦ inl (record { pair = p.0; here = p.1; is = e })
        | inr e ↦ inr (record { unit = p.0.said; here = said_at ps u p.0 p.1; named = e; inside = subst (λ n. o < n) (same_size p.0.spare p.0.said p.0.made p.0.spared x) inside })
      ]
