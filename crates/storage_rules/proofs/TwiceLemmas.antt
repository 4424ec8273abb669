-- The first number that stands twice is that of the first place that is filled before.
use Rattle.std.proofs.Common.{◌≡◌, ◌<◌, ◌≤◌, ◌∙◌, ◌∷◌, [], inl, inr, ℕ, zero, suc, List, length, map, slice_index, Option, Some, refl, sym, ap, arith}
use Rattle.std.proofs.lemmas.Bool.{cases_lt}
use Rattle.std.specs.List.{slice_get}
use Rattle.ground.specs.declared.fault.Fault.{Fault}
use Rattle.ground.specs.declared.fault.FaultKind.TheVariants.{InitialTwice}
use Rattle.f66_tree.specs.Syntax.{Text}
use Rattle.f66_program.specs.Association.{IsNumbering}
use Rattle.f66_program.specs.Initial.{Preset, presets_of, FillsTwice}
use Rattle.f66_program.specs.Linking.{Program, Part, at_part, IsEarlier, place_in}
use Rattle.linker.specs.Rules.{IsFirstBroken, IsKept}
use Rattle.storage_rules.specs.Repeats.{RepeatsAt, IsFirstRepeat, HasNoRepeat}
use Rattle.storage_rules.proofs.PresetLemmas.{IsNotBefore, in_order}

pub numbered : {X : Type 0} (f : X → Option ℕ) (xs : List X) (ns : List ℕ) (k : ℕ) (x : X) → map f xs ≡ map (λ n. Some n) ns → slice_get xs k ≡ Some x → (k < length ns) × (f x ≡ Some (slice_index ns k))
numbered f [] ns k x e h = absurd (cc)
numbered f (y ∷ xs) [] k x e h = absurd (cc)
numbered f (y ∷ xs) (n ∷ ns) zero x e h = (omega arith, (let same : y ≡ x = (let g : Some y ≡ Some x = h in cc) in let first : f y ≡ Some n = cc in ap f (sym same) ∙ first))
numbered f (y ∷ xs) (n ∷ ns) (suc k) x e h = (let rest : map f xs ≡ map (λ n. Some n) ns = cc in let w = numbered f xs ns k x rest h in ((let lt = w.0 in omega (arith, lt)), w.1))

got : {X : Type 0} (f : X → Option ℕ) (xs : List X) (ns : List ℕ) (k : ℕ) → map f xs ≡ map (λ n. Some n) ns → k < length ns → (x : X) × (slice_get xs k ≡ Some x)
got f [] [] k e lt = absurd (omega (arith, lt))
got f [] (n ∷ ns) k e lt = absurd (cc)
got f (y ∷ xs) [] k e lt = absurd (omega (arith, lt))
got f (y ∷ xs) (n ∷ ns) zero e lt = (y, refl)
got f (y ∷ xs) (n ∷ ns) (suc k) e lt = (let rest : map f xs ≡ map (λ n. Some n) ns = cc in got f xs ns k rest (omega (arith, lt)))

module _ (p : Program) (number : ℕ → Text → ℕ → Option ℕ) (total : ℕ) (n : IsNumbering p.units number total) (ns : List ℕ) where
  abbrev pub number_of : Preset → Option ℕ
  number_of q = number q.unit q.name q.at

  module _ (are : map number_of (presets_of p.units) ≡ map (λ n. Some n) ns) where
    record IsRepeat (u i : ℕ) : Type 0 where
      index : ℕ
      preset : Preset
      here : slice_get (presets_of p.units) index ≡ Some preset
      inside : index < length ns
      repeats : RepeatsAt ns index
      unit : preset.unit ≡ u
      part : preset.part ≡ i

    twice_repeats : (u i : ℕ) → FillsTwice p.units u i → IsRepeat u i
    twice_repeats u i t =
        let a = numbered number_of (presets_of p.units) ns t.first t.one are t.one_is in
        let b = numbered number_of (presets_of p.units) ns t.second t.other are t.other_is in
        let ra = n.real t.one.unit t.one.name t.one.at (slice_index ns t.first) a.1 in
        let rb = n.real t.other.unit t.other.name t.other.at (slice_index ns t.second) b.1 in
        let e = (n.same t.one.unit t.one.name t.one.at t.other.unit t.other.name t.other.at ra rb).1 t.same in
        let same : Some (slice_index ns t.first) ≡ Some (slice_index ns t.second) = sym a.1 ∙ e ∙ b.1 in
        record { index = t.second; preset = t.other; here = t.other_is; inside = b.0; repeats = (t.first, t.order, cc); unit = t.in_unit; part = t.in_part }

    pub repeats_twice : (k : ℕ) (q : Preset) → slice_get (presets_of p.units) k ≡ Some q → RepeatsAt ns k → FillsTwice p.units q.unit q.part
    repeats_twice k q here r =
        let b = numbered number_of (presets_of p.units) ns k q are here in
        let j_in : r.0 < length ns = (let lt = r.1 in let l = b.0 in omega (arith, lt, l)) in
        let o = got number_of (presets_of p.units) ns r.0 are j_in in
        let a = numbered number_of (presets_of p.units) ns r.0 o.0 are o.1 in
        let ra = n.real o.0.unit o.0.name o.0.at (slice_index ns r.0) a.1 in
        let rb = n.real q.unit q.name q.at (slice_index ns k) b.1 in
        let e = a.1 ∙ ap Some r.2 ∙ sym b.1 in
        record {
          first = r.0;
          second = k;
          order = r.1;
          one = o.0;
          other = q;
          one_is = o.1;
          other_is = here;
          in_unit = refl;
          in_part = refl;
          same = (n.same o.0.unit o.0.name o.0.at q.unit q.name q.at ra rb).0 e;
        }

    pub values_kept : HasNoRepeat ns → IsKept InitialTwice p
    values_kept none q b = (let w = twice_repeats q.unit b.0 b.2 in none w.index w.inside w.repeats)

    not_earlier : (a b : Preset) (q : Part) → IsNotBefore a b → b.unit ≡ q.unit → q.part ≡ suc b.part → IsEarlier q (at_part a.unit (suc a.part)) → ⊥
    not_earlier a b q (inl l) u i (inl e) = omega (arith, l, u, e)
    not_earlier a b q (inl l) u i (inr e) = (let f = e.0 in omega (arith, l, u, f))
    not_earlier a b q (inr l) u i (inl e) = (let f = l.0 in omega (arith, f, u, e))
    not_earlier a b q (inr l) u i (inr e) = (let f = l.1 in let g = e.1 in omega (arith, f, g, i))

    pub values_broken : (k : ℕ) (q : Preset) → slice_get (presets_of p.units) k ≡ Some q → IsFirstRepeat ns k → (f : Fault) → f.kind ≡ InitialTwice → f.number ≡ 0 →
        place_in p (at_part q.unit (suc q.part)) ≡ Some f.place → IsFirstBroken InitialTwice p f
    values_broken k q here h f kind num place = record {
      kind = kind;
      number = num;
      part = at_part q.unit (suc q.part);
      broken = (q.part, refl, repeats_twice k q here h.repeats);
      earlier = λ s before b.
          let w = twice_repeats s.unit b.0 b.2 in
          let le : k ≤ w.index = elim (cases_lt w.index k) [ inl lt ↦ absurd (h.earlier w.index lt w.repeats) | inr ge ↦ ge ] in
          let o = in_order p.units k w.index q w.preset le here w.here in
          not_earlier q w.preset s o w.unit (b.1 ∙ ap suc (sym w.part)) before;
      place = place;
    }

    pub preset_at : (k : ℕ) → k < length ns → (q : Preset) × (slice_get (presets_of p.units) k ≡ Some q)
    preset_at k lt = got number_of (presets_of p.units) ns k are lt
