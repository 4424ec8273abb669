-- The second main, and a program without one.
use Rattle.std.proofs.Common.{◌≡◌, ◌<◌, ◌+◌, ◌⊎◌, inl, inr, ℕ, Bool, true, false, List, length, None, Some, refl, sym, ap, ◌∙◌, arith, subst}
use Rattle.std.specs.Prelude.{MatchBool}
use Rattle.std.proofs.lemmas.Bool.{cases_lt}
use Rattle.std.specs.List.{Contains, slice_get}
use Rattle.ground.specs.declared.fault.Fault.{Fault}
use Rattle.ground.specs.declared.fault.FaultKind.TheVariants.{MainCount}
use Rattle.f66_tree.specs.Syntax.{Routine}
use Rattle.f66_tree.specs.Units.{is_main}
use Rattle.f66_program.specs.Linking.{Program, Part, at_part, IsEarlier, first_of, place_of_part, MiscountsMain, second, none}
use Rattle.linker.specs.Rules.{IsFirstBroken, IsKept}
use Rattle.linker.specs.Mains.{IsMainAt, HasOneMain, HasNoMain}
use Rattle.linker.proofs.PartLemmas.{contains_got, got_contained, got_inside, place_here, place_behind, same_unit}

module _ (rs : List Routine) (i : ℕ) (r : Routine) (here : slice_get rs i ≡ Some r) where
  pub main_new : is_main r.header ≡ true → HasNoMain rs i → HasOneMain rs (i + 1)
  main_new m n = (i, omega arith, (r, here, m), λ v lt h. elim (cases_lt v i) [ inl k ↦ absurd (n v k h) | inr k ↦ omega (arith, lt, k) ])

  no_main_more : is_main r.header ≡ false → (v : ℕ) → v < i + 1 → IsMainAt rs v → v < i
  no_main_more m v lt h = elim (cases_lt v i) [
    | inl k ↦ k
    | inr k ↦ absurd (let at : v ≡ i = omega (arith, lt, k) in let same : h.0 ≡ r = same_unit (slice_get rs i) (subst (λ w. slice_get rs w ≡ Some h.0) at h.1) here in let t = subst (λ s. is_main s.header ≡ true) same h.2 in cc)
  ]

  pub one_more : is_main r.header ≡ false → HasOneMain rs i → HasOneMain rs (i + 1)
  one_more m o = (o.0, (let l = o.1 in omega (arith, l)), o.2, λ v lt h. o.3 v (no_main_more m v lt h) h)

  pub none_more : is_main r.header ≡ false → HasNoMain rs i → HasNoMain rs (i + 1)
  none_more m n v lt h = n v (no_main_more m v lt h) h

  -- a unit that is no main changes nothing
  pub kept_as : (found : Bool) → is_main r.header ≡ false → (new : Bool) → new ≡ found → MatchBool found (HasOneMain rs i) (HasNoMain rs i) → MatchBool new (HasOneMain rs (i + 1)) (HasNoMain rs (i + 1))
  kept_as true m new e o = rw e (one_more m o)
  kept_as false m new e o = rw e (none_more m o)

contained_main : (rs : List Routine) (u : ℕ) (r : Routine) → slice_get rs u ≡ Some r → is_main r.header ≡ true → ((s : Routine) → Contains rs s → is_main s.header ≡ false) → ⊥
contained_main rs u r here m others = (let f = others r (contains_got rs u r here) in cc)

true_or_false : (b : Bool) → (b ≡ true) ⊎ (b ≡ false)
true_or_false true = inl refl
true_or_false false = inr refl

module _ (p : Program) where
  two_mains : (n u v : ℕ) → HasOneMain p.units n → u < v → v < n → IsMainAt p.units u → IsMainAt p.units v → ⊥
  two_mains n u v o lt v_in mu mv = (let a = o.3 u (omega (arith, lt, v_in)) mu in let b = o.3 v v_in mv in omega (arith, a, b, lt))

  module _ (i : ℕ) (r : Routine) (o : HasOneMain p.units i) (here : slice_get p.units i ≡ Some r) (m : is_main r.header ≡ true) where
    second_earlier : (q : Part) → IsEarlier q (at_part i (first_of r)) → MiscountsMain p q → ⊥
    second_earlier q (inl e) (second u v a b ha hb lt ma mb at) =
        let n : q.unit ≡ v = ap (λ q. q.unit) at in
        two_mains i u v o lt (omega (arith, n, e)) (a, ha, ma) (b, hb, mb)
    second_earlier q (inr e) (second u v a b ha hb lt ma mb at) =
        let n : q.unit ≡ v = ap (λ q. q.unit) at in
        let w : v ≡ i = sym n ∙ e.0 in
        let same : b ≡ r = same_unit (slice_get p.units i) (subst (λ w. slice_get p.units w ≡ Some b) w hb) here in
        let k : q.part ≡ first_of r = ap (λ q. q.part) at ∙ ap first_of same in
        let l = e.1 in
        omega (arith, k, l)
    second_earlier q e (none all at) = contained_main p.units o.0 o.2.0 o.2.1 o.2.2 all

    pub second_main : (f : Fault) → f.kind ≡ MainCount → f.number ≡ 0 → place_of_part r (first_of r) ≡ Some f.place → IsFirstBroken MainCount p f
    second_main f k n place = record {
      kind = k;
      number = n;
      part = at_part i (first_of r);
      broken = second o.0 i o.2.0 r o.2.1 here o.1 o.2.2 m refl;
      earlier = second_earlier;
      place = place_here p (at_part i (first_of r)) r here ∙ place;
    }

  pub one_main : HasOneMain p.units (length p.units) → IsKept MainCount p
  one_main o q (second u v a b ha hb lt ma mb at) = two_mains (length p.units) u v o lt (got_inside p.units v b hb) (a, ha, ma) (b, hb, mb)
  one_main o q (none all at) = contained_main p.units o.0 o.2.0 o.2.1 o.2.2 all

  none_earlier : HasNoMain p.units (length p.units) → (q : Part) → IsEarlier q (at_part (length p.units) 0) → MiscountsMain p q → ⊥
  none_earlier o q e (second u v a b ha hb lt ma mb at) = o v (got_inside p.units v b hb) (b, hb, mb)
  none_earlier o q (inl e) (none all at) = (let n : q.unit ≡ length p.units = ap (λ q. q.unit) at in omega (arith, n, e))
  none_earlier o q (inr e) (none all at) = (let n : q.part ≡ 0 = ap (λ q. q.part) at in let l = e.1 in omega (arith, n, l))

  not_main : HasNoMain p.units (length p.units) → (r : Routine) → Contains p.units r → is_main r.header ≡ false
  not_main o r c = elim (true_or_false (is_main r.header)) [
    | inl m ↦ absurd (o c.0 c.1 (r, got_contained p.units c.0 r c.1 c.2, m))
    | inr m ↦ m
  ]

  pub no_main : HasNoMain p.units (length p.units) → slice_get p.units (length p.units) ≡ None → (f : Fault) → f.kind ≡ MainCount → f.number ≡ 0 → f.place ≡ p.finish → IsFirstBroken MainCount p f
  no_main o behind f k n place = record {
    kind = k;
    number = n;
    part = at_part (length p.units) 0;
    broken = none (not_main o) refl;
    earlier = none_earlier o;
    place = place_behind p (at_part (length p.units) 0) behind ∙ ap Some (sym place);
  }
