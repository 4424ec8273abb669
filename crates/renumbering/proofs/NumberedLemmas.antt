-- A numbering of the storage units of a program of sound units gives a linkage of it, where no place is filled twice, so that each has
-- at first what DATA says.
use Rattle.std.proofs.Common.{◌≡◌, ◌<◌, ℕ, zero, suc, true, List, [], ◌∷◌, length, Option, Some, None, map, refl, sym, ap, ◌∙◌, subst, arith}
use Rattle.std.specs.Prelude.{◌↔◌, pos, ◌-ℤ◌, unwrap_or, if◌then◌else◌}
use Rattle.std.specs.List.{All, Contains, slice_get}
use Rattle.std.proofs.lemmas.Bool.{eq-eqb, ne_eqb}
use Rattle.std.proofs.lemmas.List.Elements.{All-contains}
use Rattle.std.proofs.lemmas.Option.{slice_get_within, get_or_from_slice_get, slice_get-get_or}
use Rattle.ground.specs.declared.fault.FaultKind.TheVariants.{InitialTwice}
use Rattle.ground.specs.Content.{Content, Nothing}
use Rattle.f66_tree.specs.Syntax.{Text, MainUnit, Routine}
use Rattle.f66_tree.specs.World.{fresh}
use Rattle.f66_tree.specs.Units.{is_main, Linkage}
use Rattle.f66_soundness.proofs.KindLemmas.{no_some, some_same}
use Rattle.f66_check.specs.Answers.{IsSoundUnit}
use Rattle.f66_program.specs.Mentions.{context_of}
use Rattle.f66_program.specs.Association.{Own, IsSame, ties_of, IsReal, IsNumbering}
use Rattle.f66_program.specs.Calls.{unit_named}
use Rattle.f66_program.specs.Initial.{Preset, presets_of, IsInitial}
use Rattle.f66_program.specs.Linking.{Program, Part, at_part, Breaks, IsLinkage}
use Rattle.renumbering.specs.Numbered.{number_or_zero, NumberingLinks}
use Rattle.renumbering.proofs.PresetLemmas.{presets_real}
use Rattle.renumbering.proofs.NumberLemmas.{placed_at, all_placed}

-- ---- a store that holds some contents ----

module _ (num : Preset → ℕ) where
  abbrev filling : List Preset → ℕ → Content
  filling qs = fresh (map (λ q. (num q, q.value)) qs)

  -- the first place of a number has its value
  first_filled : (qs : List Preset) (j : ℕ) (q : Preset) → slice_get qs j ≡ Some q → ((i : ℕ) (a : Preset) → i < j → slice_get qs i ≡ Some a → ¬ (num a ≡ num q)) → filling qs (num q) ≡ q.value
  first_filled [] j q is h = no_some _ is
  first_filled (a ∷ qs) zero q is h =
      subst (λ b. filling (b ∷ qs) (num q) ≡ q.value) (sym (some_same is)) (ap (λ t. if t then q.value else filling qs (num q)) (eq-eqb (num q) (num q) refl))
  first_filled (a ∷ qs) (suc j) q is h =
      ap (λ t. if t then a.value else filling qs (num q)) (ne_eqb (num q) (num a) (λ e. h zero a (omega arith) refl (sym e)))
      ∙ first_filled qs j q is (λ i b lt there. h (suc i) b (omega (arith, lt)) there)

  none_filled : (qs : List Preset) (n : ℕ) → ((q : Preset) → Contains qs q → ¬ (num q ≡ n)) → filling qs n ≡ Nothing
  none_filled [] n h = refl
  none_filled (a ∷ qs) n h =
      ap (λ t. if t then a.value else filling qs n) (ne_eqb n (num a) (λ e. h a (0, omega arith, refl) (sym e)))
      ∙ none_filled qs n (λ q c. let lt = c.1 in h q (suc c.0, omega (arith, lt), c.2))

-- the linkage by numbers of all names and places, whether they are there or not
abbrev pub by_numbers : List Routine → ℕ → (ℕ → Text → ℕ → ℕ) → Linkage
by_numbers rs main number = record {
  context = λ u. elim (slice_get rs u) [ Some r ↦ context_of r | None ↦ record { header = MainUnit; notes = [] } ];
  find = λ x. unit_named x rs;
  main = main;
  deep = length rs;
  number = number;
  first = fresh (map (λ q. (number q.unit q.name q.at, q.value)) (presets_of rs));
}

-- where two places have one number exactly where they are one storage unit
module _ (p : Program) (sound : All IsSoundUnit p.units) (single : (q : Part) → ¬ Breaks InitialTwice p q) (number : ℕ → Text → ℕ → ℕ)
    (same : (u : ℕ) (x : Text) (o v : ℕ) (y : Text) (q : ℕ) → IsReal p.units u x o → IsReal p.units v y q → (number u x o ≡ number v y q) ↔ IsSame (ties_of p.units) (Own u x) (Own v y) (pos q -ℤ pos o)) where
  abbrev rs : List Routine
  rs = p.units

  abbrev qs : List Preset
  qs = presets_of rs

  there : (j : ℕ) (q : Preset) → slice_get qs j ≡ Some q → Contains qs q
  there j q at = (j, slice_get_within qs j q at, get_or_from_slice_get qs j q q at)

  real : (q : Preset) → Contains qs q → IsReal rs q.unit q.name q.at
  real q c = All-contains (λ a. IsReal rs a.unit a.name a.at) qs q (presets_real rs (placed_at rs (all_placed rs sound))) c

  abbrev num : Preset → ℕ
  num q = number q.unit q.name q.at

  once : (i j : ℕ) (a q : Preset) → i < j → slice_get qs i ≡ Some a → slice_get qs j ≡ Some q → ¬ (num a ≡ num q)
  once i j a q lt first other e =
      single (at_part q.unit (suc q.part)) (
        q.part,
        refl,
        record {
          first = i;
          second = j;
          order = lt;
          one = a;
          other = q;
          one_is = first;
          other_is = other;
          in_unit = refl;
          in_part = refl;
          same = (same a.unit a.name a.at q.unit q.name q.at (real a (there i a first)) (real q (there j q other))).0 e;
        },
      )

  initial : IsInitial rs number (fresh (map (λ q. (number q.unit q.name q.at, q.value)) qs))
  initial = record {
    filled = λ q c.
        let at = slice_get-get_or qs c.0 q c.1 ∙ ap Some c.2 in
        first_filled num qs c.0 q at (λ i a lt here. once i c.0 a q lt here at);
    empty = λ n none. none_filled num qs n none;
  }

  pub links_by : (main : ℕ) (r : Routine) → slice_get rs main ≡ Some r → is_main r.header ≡ true → IsLinkage rs (by_numbers rs main number)
  links_by main r here is_main_unit = record {
    contexts = λ u s at. ap (λ o. elim o [ Some t ↦ context_of t | None ↦ record { header = MainUnit; notes = [] } ]) at;
    finds = λ x. refl;
    main = (r, here, is_main_unit);
    deep = refl;
    numbers = same;
    initial = initial;
  }

-- ---- a numbering ----

module _ (rs : List Routine) (number : ℕ → Text → ℕ → Option ℕ) (total : ℕ) (is : IsNumbering rs number total) where
  -- real places have their numbers
  has_number : (u : ℕ) (x : Text) (o : ℕ) → IsReal rs u x o → number u x o ≡ Some (number_or_zero number u x o)
  has_number u x o real = let n = is.below u x o real in n.1 ∙ ap Some (sym (ap (λ k. unwrap_or k 0) n.1))

  same_numbers : (u : ℕ) (x : Text) (o v : ℕ) (y : Text) (q : ℕ) → IsReal rs u x o → IsReal rs v y q →
      (number_or_zero number u x o ≡ number_or_zero number v y q) ↔ IsSame (ties_of rs) (Own u x) (Own v y) (pos q -ℤ pos o)
  same_numbers u x o v y q h k =
      let same = is.same u x o v y q h k in
      (λ e. same.0 (has_number u x o h ∙ ap Some e ∙ sym (has_number v y q k)), λ e. ap (λ n. unwrap_or n 0) (same.1 e))

pub numbering_links : NumberingLinks
numbering_links p sound single main r here is_main number total is = links_by p sound single (number_or_zero number) (same_numbers p.units number total is) main r here is_main
