-- The tables of a whole program are a linkage of its units.
use Rattle.std.proofs.Common.{◌≡◌, ◌<◌, ℕ, suc, List, length, map, slice_index, Option, Some, refl, sym, ap, ◌∙◌}
use Rattle.std.specs.Prelude.{◌↔◌, pos, ◌-ℤ◌, unwrap_or}
use Rattle.std.specs.List.{slice_get}
use Rattle.std.proofs.lemmas.Simd.{map-map}
use Rattle.ground.specs.declared.place.Place.{Place}
use Rattle.ground.specs.declared.fault.FaultKind.TheVariants.{InitialTwice}
use Rattle.f66_tree.specs.Syntax.{Text, Routine}
use Rattle.f66_program.specs.Association.{Own, IsReal, IsSame, ties_of}
use Rattle.f66_program.specs.Initial.{Preset, IsInitial, presets_of}
use Rattle.f66_program.specs.Linking.{Program, at_part, IsWhole, IsLinkage}
use Rattle.linker.specs.CallViews.{units_in}
use Rattle.linker.proofs.PartLemmas.{contains_got, got_contained}
use Rattle.program_storage.specs.Numbers.{number_in_program}
use Rattle.storage_rules.specs.Presets.{preset_seen}
use Rattle.storage_rules.specs.Repeats.{HasNoRepeat}
use Rattle.storage_rules.proofs.TwiceLemmas.{number_of, numbered, preset_at, repeats_twice}
use Rattle.whole_program.specs.declared.linked.Linked.{Linked}
use Rattle.whole_program.specs.Linked.{IsLinked}
use Rattle.whole_program.specs.Linkage.{context_or, linkage_of, value_at}
use Rattle.whole_program.proofs.ValueLemmas.{value_there, no_value}

plain : (a b : Option ℕ) (n m : ℕ) → a ≡ Some n → b ≡ Some m → unwrap_or a 0 ≡ unwrap_or b 0 → a ≡ b
plain a b n m ea eb e = ea ∙ ap Some (sym (ap (λ o. unwrap_or o 0) ea) ∙ e ∙ ap (λ o. unwrap_or o 0) eb) ∙ sym eb

module _ (l : Linked) (finish : Place) (whole : IsWhole (record { units = units_in l.calls; finish = finish })) (t : IsLinked (units_in l.calls) l) where
  abbrev rs : List Routine
  rs = units_in l.calls

  abbrev p : Program
  p = record { units = units_in l.calls; finish = finish }

  abbrev ns : List ℕ
  ns = l.numbers.items

  abbrev number : ℕ → Text → ℕ → Option ℕ
  number = number_in_program l.storage

  abbrev told : Preset → Option ℕ
  told = number_of p number l.storage.total t.numbering ns

  are : map told (presets_of rs) ≡ map (λ n. Some n) ns
  are = ap (map told) (sym t.presets) ∙ map-map told preset_seen l.presets.items ∙ t.numbers

  one_each : HasNoRepeat ns
  one_each k lt r =
      let o = preset_at p number l.storage.total t.numbering ns are k lt in
      whole.clean InitialTwice (at_part o.0.unit (suc o.0.part)) (o.0.part, refl, repeats_twice p number l.storage.total t.numbering ns are k o.0 o.1 r)

  numbers : (u : ℕ) (x : Text) (o v : ℕ) (y : Text) (q : ℕ) → IsReal rs u x o → IsReal rs v y q → (unwrap_or (number u x o) 0 ≡ unwrap_or (number v y q) 0) ↔ IsSame (ties_of rs) (Own u x) (Own v y) (pos q -ℤ pos o)
  numbers u x o v y q ra rb =
      let a = t.numbering.below u x o ra in
      let b = t.numbering.below v y q rb in
      let s = t.numbering.same u x o v y q ra rb in
      (λ e. s.0 (plain (number u x o) (number v y q) a.0 b.0 a.1 b.1 e), λ e. ap (λ n. unwrap_or n 0) (s.1 e))

  module _ (k : ℕ) (q : Preset) (here : slice_get (presets_of rs) k ≡ Some q) where
    at_number : (k < length ns) × (told q ≡ Some (slice_index ns k))
    at_number = numbered told (presets_of rs) ns k q are here

    is_number : unwrap_or (told q) 0 ≡ slice_index ns k
    is_number = ap (λ o. unwrap_or o 0) at_number.1

  initial : IsInitial rs (λ u x o. unwrap_or (number u x o) 0) (value_at ns (presets_of rs))
  initial = record {
    filled = λ q c.
        let here = got_contained (presets_of rs) c.0 q c.1 c.2 in
        ap (value_at ns (presets_of rs)) (is_number c.0 q here) ∙ value_there ns (presets_of rs) c.0 q one_each (at_number c.0 q here).0 here;
    empty = λ n none. no_value ns (presets_of rs) n (λ k q lt here e. none q (contains_got (presets_of rs) k q here) (is_number k q here ∙ e));
  }

  pub linkage : IsLinkage rs (linkage_of l)
  linkage = record {
    contexts = λ u r here. ap context_or here;
    finds = λ x. t.calls.numbers x;
    main = t.main;
    deep = refl;
    numbers = numbers;
    initial = initial;
  }
