-- What the table of places tells of the texts under way: since each stands where the table says, a macro has no text
-- under way but the one that stands there.
use Rattle.std.proofs.Common.{◌≡◌, ℕ, zero, suc, ◌<◌, ◌==◌, Bool, true, false, ◌||◌, ◌⊎◌, inl, inr, List, [], ◌∷◌, ◌++◌, length, refl, sym, ◌∙◌, ap, subst, arith, slice_get, Some, None, true≢false}
use Rattle.std.specs.Prelude.{Option, nat_eq, cond}
use Rattle.std.specs.List.{list_any}
use Rattle.std.specs.HashMap.{HashMap, get, Updates}
use Rattle.std.proofs.lemmas.Option.{slice_get_within}
use Rattle.std.proofs.lemmas.Map.Keys.{any_passes_from_place}
use Rattle.macro_define.specs.declared.uses.Use.{Use}
use Rattle.macro_define.specs.Placed.{IsPlaced}

none_passes : {X : Type 0} (p : X → Bool) (xs : List X) → ((i : ℕ) (x : X) → slice_get xs i ≡ Some x → p x ≡ false) → list_any p xs ≡ false
none_passes p [] h = refl
none_passes p (x ∷ xs) h = ap (λ b. b || list_any p xs) (h 0 x refl) ∙ none_passes p xs (λ i y. h (suc i) y)

fails_at : {X : Type 0} (p : X → Bool) (xs : List X) (i : ℕ) (x : X) (b : Bool) → list_any p xs ≡ false → slice_get xs i ≡ Some x → p x ≡ b → p x ≡ false
fails_at p xs i x true none at passes = absurd (true≢false (sym (any_passes_from_place p xs i x at passes) ∙ none))
fails_at p xs i x false none at fails = fails

some_same : {X : Type 0} (x y : X) → Some x ≡ Some y → x ≡ y
some_same x y e = cc

slice_get-front : {X : Type 0} (xs : List X) (y : X) (i : ℕ) (x : X) → slice_get xs i ≡ Some x → slice_get (xs ++ y ∷ []) i ≡ Some x
slice_get-front [] y i x e = absurd (omega (arith, slice_get_within [] i x e))
slice_get-front (z ∷ zs) y zero x e = e
slice_get-front (z ∷ zs) y (suc i) x e = slice_get-front zs y i x e

slice_get-last : {X : Type 0} (xs : List X) (y : X) → slice_get (xs ++ y ∷ []) (length xs) ≡ Some y
slice_get-last [] y = refl
slice_get-last (z ∷ zs) y = slice_get-last zs y

slice_get-either : {X : Type 0} (xs : List X) (y : X) (i : ℕ) (x : X) → slice_get (xs ++ y ∷ []) i ≡ Some x → (slice_get xs i ≡ Some x) ⊎ ((i ≡ length xs) × (y ≡ x))
slice_get-either [] y zero x e = inr (refl, some_same y x e)
slice_get-either [] y (suc i) x e = absurd (omega (arith, slice_get_within (y ∷ []) (suc i) x e))
slice_get-either (z ∷ zs) y zero x e = inl e
slice_get-either (z ∷ zs) y (suc i) x e = elim (slice_get-either zs y i x e) [ inl h ↦ inl h | inr h ↦ inr (omega (arith, h.0), h.1) ]

module _ {S : Type 0} (us : List Use) (places : HashMap ℕ ℕ S) (placed : IsPlaced us places) where
  abbrev is_under_way : ℕ → Bool
  is_under_way n = list_any (λ (u : Use). u.number == n) us

  not_there : (n i j : ℕ) (u v : Use) (b : Bool) → get nat_eq places n ≡ Some i → slice_get us i ≡ Some u → (u.number == n) ≡ false
      → slice_get us j ≡ Some v → (v.number == n) ≡ b → (v.number == n) ≡ false
  not_there n i j u v false table at other here fails = fails
  not_there n i j u v true table at other here passes =
      let same : v.number ≡ n = grind arith in
      let place : i ≡ j = some_same i j (sym table ∙ subst (λ k. get nat_eq places k ≡ Some j) same (placed j v here)) in
      let it : u ≡ v = some_same u v (sym at ∙ ap (slice_get us) place ∙ here) in
      absurd (true≢false (sym passes ∙ subst (λ w. (w.number == n) ≡ false) it other))

  found_here : (n i : ℕ) (u : Use) (b : Bool) → get nat_eq places n ≡ Some i → slice_get us i ≡ Some u → (u.number == n) ≡ b → is_under_way n ≡ b
  found_here n i u true table at is = any_passes_from_place (λ (v : Use). v.number == n) us i u at is
  found_here n i u false table at is = none_passes (λ (v : Use). v.number == n) us (λ j v here. not_there n i j u v (v.number == n) table at is here refl)

  -- the text that stands where the table says tells whether the macro has one
  pub found : (n i : ℕ) (u : Use) → get nat_eq places n ≡ Some i → slice_get us i ≡ Some u → is_under_way n ≡ (u.number == n)
  found n i u table at = found_here n i u (u.number == n) table at refl

  not_at_all : (n j : ℕ) (v : Use) (b : Bool) → ((i : ℕ) → get nat_eq places n ≡ Some i → slice_get us i ≡ None) → slice_get us j ≡ Some v → (v.number == n) ≡ b → (v.number == n) ≡ false
  not_at_all n j v false h here fails = fails
  not_at_all n j v true h here passes =
      let same : v.number ≡ n = grind arith in
      let none : slice_get us j ≡ None = h j (subst (λ k. get nat_eq places k ≡ Some j) same (placed j v here)) in
      absurd (let clash : None ≡ Some v = sym none ∙ here in cc)

  -- no text stands where the table says
  pub lost : (n : ℕ) → ((i : ℕ) → get nat_eq places n ≡ Some i → slice_get us i ≡ None) → is_under_way n ≡ false
  lost n h = none_passes (λ (v : Use). v.number == n) us (λ j v here. not_at_all n j v (v.number == n) h here refl)

  -- the table with a new place of a macro that has no text under way
  pub placed-noted : (more : HashMap ℕ ℕ S) (n : ℕ) (w : Option ℕ) → is_under_way n ≡ false → Updates nat_eq places more n w → IsPlaced us more
  placed-noted more n w new updates = λ i v at.
      let other : (v.number == n) ≡ false = fails_at (λ (u : Use). u.number == n) us i v (v.number == n) new at refl in
      let apart : nat_eq n v.number ≡ false = grind arith in
      updates.0 v.number ∙ (ap (λ b. cond b w (get nat_eq places v.number)) apart ∙ placed i v at)

  -- one text more
  pub placed-pushed : (more : HashMap ℕ ℕ S) (u : Use) → is_under_way u.number ≡ false → Updates nat_eq places more u.number (Some (length us)) → IsPlaced (us ++ u ∷ []) more
  placed-pushed more u new updates = λ i v at.
      elim (slice_get-either us u i v at) [
        | inl h ↦ placed-noted more u.number (Some (length us)) new updates i v h
        | inr h ↦ subst (λ (w : Use). get nat_eq more w.number ≡ Some i) h.1 (updates.1 ∙ ap (λ k. Some k) (sym h.0))
      ]

module _ {S : Type 0} (us : List Use) (u : Use) (places : HashMap ℕ ℕ S) (placed : IsPlaced (us ++ u ∷ []) places) where
  -- one text less
  pub placed-popped : IsPlaced us places
  placed-popped = λ i v at. placed i v (slice_get-front us u i v at)

  not_another : (i : ℕ) (v : Use) (b : Bool) → slice_get us i ≡ Some v → (v.number == u.number) ≡ b → (v.number == u.number) ≡ false
  not_another i v false at fails = fails
  not_another i v true at passes =
      let same : v.number ≡ u.number = grind arith in
      let here : get nat_eq places u.number ≡ Some i = subst (λ k. get nat_eq places k ≡ Some i) same (placed i v (slice_get-front us u i v at)) in
      let last : get nat_eq places u.number ≡ Some (length us) = placed (length us) u (slice_get-last us u) in
      let place : i ≡ length us = some_same i (length us) (sym here ∙ last) in
      let within : i < length us = slice_get_within us i v at in
      absurd (omega arith)

  -- of its macro there is then none
  pub popped-alone : list_any (λ (v : Use). v.number == u.number) us ≡ false
  popped-alone = none_passes (λ (v : Use). v.number == u.number) us (λ i v at. not_another i v (v.number == u.number) at refl)
