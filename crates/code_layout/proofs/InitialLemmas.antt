-- The initial values, put one after the other, are the contents at first.
use Rattle.std.proofs.Common.{◌≡◌, ◌<◌, ℕ, suc, nat_eq, Bool, true, false, true≢false, List, [], ◌∷◌, Option, Some, map, unwrap_or, refl, sym, ap, subst, ◌∙◌}
use Rattle.std.specs.Prelude.{⊤, if◌then◌else◌}
use Rattle.std.specs.List.{slice_get}
use Rattle.std.proofs.lemmas.Bool.{eq-eqb, ne_eqb, eqb-true}
use Rattle.std.proofs.lemmas.Simd.{map-map}
use Rattle.ground.specs.Content.{Content, Nothing}
use Rattle.ground.specs.declared.place.Place.{Place}
use Rattle.f66_tree.specs.World.{Store, put_in}
use Rattle.f66_program.specs.Initial.{Preset, presets_of}
use Rattle.f66_program.specs.Linking.{IsWhole}
use Rattle.linker.specs.CallViews.{units_in}
use Rattle.linker.proofs.PartLemmas.{contains_got}
use Rattle.program_storage.specs.Numbers.{number_in_program}
use Rattle.storage_rules.specs.Presets.{preset_seen}
use Rattle.stack_code.specs.StackMachine.{empty}
use Rattle.whole_program.specs.declared.linked.Linked.{Linked}
use Rattle.whole_program.specs.Linked.{IsLinked}
use Rattle.whole_program.specs.Linkage.{linkage_of, value_at}
use Rattle.whole_program.proofs.LinkageLemmas.{linkage}
use Rattle.code_gen.specs.Behaves.{filled, AreBelow}
use Rattle.code_layout.specs.Ranked.{bound_of, contents_in, initial_of}
use Rattle.code_layout.proofs.LaidLemmas.{small}

-- none of them is at this storage unit
abbrev Absent : ℕ → List (ℕ × Content) → Type 0
Absent q [] = ⊤
Absent q (p ∷ ps) = (q ≡ p.0 → ⊥) × Absent q ps

-- each is what f has there
abbrev AllAre : Store → List (ℕ × Content) → Type 0
AllAre f [] = ⊤
AllAre f (p ∷ ps) = (f p.0 ≡ p.1) × AllAre f ps

put_here : (n : ℕ) (v : Content) (st : Store) (q : ℕ) → q ≡ n → put_in n v st q ≡ v
put_here n v st q e = ap (λ b. if b then v else st q) (eq-eqb q n e)

put_else : (n : ℕ) (v : Content) (st : Store) (q : ℕ) → (q ≡ n → ⊥) → put_in n v st q ≡ st q
put_else n v st q ne = ap (λ b. if b then v else st q) (ne_eqb q n ne)

filled_is : (f : Store) (ps : List (ℕ × Content)) (st : Store) (q : ℕ) → AllAre f ps → (Absent q ps → f q ≡ st q) → filled ps st q ≡ f q
filled_is f [] st q all h = sym (h tt)
filled_is f (p ∷ ps) st q all h = filled_is f ps (put_in p.0 p.1 st) q all.1 (λ absent. by_name (nat_eq q p.0) refl absent)
  where
    by_name : (b : Bool) → nat_eq q p.0 ≡ b → Absent q ps → f q ≡ put_in p.0 p.1 st q
    by_name true e absent = (let same = eqb-true q p.0 e in ap f same ∙ all.0 ∙ sym (put_here p.0 p.1 st q same))
    by_name false e absent =
        let apart : q ≡ p.0 → ⊥ = λ s. true≢false (sym (eq-eqb q p.0 s) ∙ e) in
        h (apart, absent) ∙ sym (put_else p.0 p.1 st q apart)

-- a number that is none of theirs has nothing at first
nothing_at : (ns : List ℕ) (ps : List Preset) (q : ℕ) → Absent q (contents_in ns ps) → value_at ns ps q ≡ Nothing
nothing_at [] ps q absent = refl
nothing_at (n ∷ ns) [] q absent = refl
nothing_at (n ∷ ns) (p ∷ ps) q absent =
    ap (λ b. if b then p.value else value_at ns ps q) (ne_eqb n q (λ e. absent.0 (sym e))) ∙ nothing_at ns ps q absent.1

module _ (told : Preset → Option ℕ) (f : Store) where
  all_are : (ns : List ℕ) (ps : List Preset) → map told ps ≡ map (λ n. Some n) ns → ((k : ℕ) (p : Preset) → slice_get ps k ≡ Some p → f (unwrap_or (told p) 0) ≡ p.value) → AllAre f (contents_in ns ps)
  all_are [] ps e h = tt
  all_are (n ∷ ns) [] e h = tt
  all_are (n ∷ ns) (p ∷ ps) e h =
      let here : told p ≡ Some n = cc in
      let behind : map told ps ≡ map (λ m. Some m) ns = cc in
      (ap (λ o. f (unwrap_or o 0)) (sym here) ∙ h 0 p refl, all_are ns ps behind (λ k q is. h (suc k) q is))

  all_below : (ns : List ℕ) (ps : List Preset) (bound : ℕ) → map told ps ≡ map (λ n. Some n) ns → ((p : Preset) → unwrap_or (told p) 0 < bound) → AreBelow bound (contents_in ns ps)
  all_below [] ps bound e h = tt
  all_below (n ∷ ns) [] bound e h = tt
  all_below (n ∷ ns) (p ∷ ps) bound e h =
      let here : told p ≡ Some n = cc in
      let behind : map told ps ≡ map (λ m. Some m) ns = cc in
      (subst (λ m. m < bound) (ap (λ o. unwrap_or o 0) here) (h p), all_below ns ps bound behind h)

module _ (l : Linked) (finish : Place) (whole : IsWhole (record { units = units_in l.calls; finish = finish })) (t : IsLinked (units_in l.calls) l) where
  abbrev told_in : Preset → Option ℕ
  told_in p = number_in_program l.storage p.unit p.name p.at

  are : map told_in (presets_of (units_in l.calls)) ≡ map (λ n. Some n) l.numbers.items
  are = ap (map told_in) (sym t.presets) ∙ map-map told_in preset_seen l.presets.items ∙ t.numbers

  pub initial : (q : ℕ) → q < bound_of l → (linkage_of l).first q ≡ filled (initial_of l) empty q
  initial q lt =
      let ps = presets_of (units_in l.calls) in
      sym (filled_is (linkage_of l).first (initial_of l) empty q
      (all_are told_in (linkage_of l).first l.numbers.items ps are (λ k p is. (linkage l finish whole t).initial.filled p (contains_got ps k p is)))
      (λ absent. nothing_at l.numbers.items ps q absent))

  pub below : AreBelow (bound_of l) (initial_of l)
  below = all_below told_in (linkage_of l).first l.numbers.items (presets_of (units_in l.calls)) (bound_of l) are (λ p. small l t p.unit p.name p.at)
