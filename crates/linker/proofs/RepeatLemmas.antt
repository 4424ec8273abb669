-- A part gives a name once more exactly where its test says so.
use Rattle.std.proofs.Common.{◌≡◌, ◌<◌, ◌≤◌, ◌+◌, ◌⊎◌, inl, inr, ◌∙◌, ◌∷◌, [], ℕ, zero, suc, Bool, true, false, not, ◌||◌, List, length, Option, None, Some, option_map, refl, sym, ap, subst, arith}
use Rattle.std.proofs.lemmas.Bool.{cases_lt}
use Rattle.std.proofs.lemmas.Bool.Decides.{Decides-ltb}
use Rattle.std.proofs.lemmas.Option.{slice_get_past}
use Rattle.std.proofs.lemmas.Slice.Eq.{bytes_eq-Decides}
use Rattle.std.specs.List.{slice_get, list_any}
use Rattle.std.specs.Str.{bytes_eq}
use Rattle.rule_table.specs.Words.{is_below, is_some_and}
use Rattle.ground.specs.declared.place.Place.{Place}
use Rattle.ground.specs.declared.fault.Fault.{Fault}
use Rattle.ground.specs.declared.fault.FaultKind.TheVariants.{DuplicateUnit}
use Rattle.f66_tree.specs.Syntax.{Text, Header, MainUnit, SubUnit, FuncUnit, DataUnit, Area, Act, Common, Line, Routine}
use Rattle.f66_program.specs.Association.{same_block}
use Rattle.f66_program.specs.Calls.{is_called, unit_named}
use Rattle.f66_program.specs.Linking.{Program, Part, at_part, IsEarlier, IsHeader, is_intrinsic, names_block, RepeatsName, of_unit, of_intrinsic, of_block}
use Rattle.linker.specs.CallRules.{is_nothing}
use Rattle.linker.specs.Repeats.{own_name, is_taken, header_repeats, is_there, block_repeats, act_repeats, part_repeats, IsClearUnit, IsFirstIn, AreClearBefore, AreClear, IsFirstRepeat}
use Rattle.linker.specs.Rules.{IsFirstBroken, IsKept}
use Rattle.linker.proofs.CallLemmas.{some_passes}
use Rattle.linker.proofs.CycleLemmas.{some_number}
use Rattle.linker.proofs.PartLemmas.{got_inside, place_here, same_unit}

itself : (x : Text) → bytes_eq x x ≡ true
itself x = (bytes_eq-Decides x x).1 refl

either : (a b : Bool) → (a || b) ≡ true → (a ≡ true) ⊎ (b ≡ true)
either true b e = inl refl
either false b e = inr e

or_right : (a b : Bool) → b ≡ true → (a || b) ≡ true
or_right true b e = refl
or_right false b e = e

-- headers

named_own : (h : Header) (x : Text) → own_name h ≡ Some x → is_called x h ≡ true
named_own MainUnit x e = absurd (cc)
named_own (SubUnit y ds) x e = (let same : y ≡ x = (let f : Some y ≡ Some x = e in cc) in ap (bytes_eq x) same ∙ itself x)
named_own (FuncUnit t y ds) x e = (let same : y ≡ x = (let f : Some y ≡ Some x = e in cc) in ap (bytes_eq x) same ∙ itself x)
named_own DataUnit x e = absurd (cc)

own_named : (h : Header) (x : Text) → is_called x h ≡ true → own_name h ≡ Some x
own_named MainUnit x e = absurd (cc)
own_named (SubUnit y ds) x e = ap Some (sym ((bytes_eq-Decides x y).0 e))
own_named (FuncUnit t y ds) x e = ap Some (sym ((bytes_eq-Decides x y).0 e))
own_named DataUnit x e = absurd (cc)

below_is : (u : ℕ) (o : Option ℕ) → is_below u o ≡ true → (v : ℕ) × (o ≡ Some v) × (v < u)
below_is u None e = absurd (cc)
below_is u (Some v) e = (v, refl, (Decides-ltb v u).0 e)

-- blocks

module _ (rs : List Routine) where
  block_sound : (areas : List Area) → list_any (λ a. block_repeats rs a.name) areas ≡ true →
      (x : Text) × (list_any (λ a. same_block (Some x) a.name) areas ≡ true) × (is_there rs x ≡ true)
  block_sound [] e = absurd (cc)
  block_sound (a ∷ areas) e = elim (either (block_repeats rs a.name) (list_any (λ a. block_repeats rs a.name) areas) e) [
    | inl here ↦
        let x = some_passes (is_there rs) a.name here in
        (x.0, ap (λ o. same_block (Some x.0) o || list_any (λ a. same_block (Some x.0) a.name) areas) x.1 ∙ ap (λ b. b || list_any (λ a. same_block (Some x.0) a.name) areas) (itself x.0), x.2)
    | inr more ↦
        let h = block_sound areas more in
        (h.0, or_right (same_block (Some h.0) a.name) (list_any (λ a. same_block (Some h.0) a.name) areas) h.1, h.2)
  ]

  same_there : (x : Text) (b : Option Text) → is_there rs x ≡ true → same_block (Some x) b ≡ true → block_repeats rs b ≡ true
  same_there x None t s = absurd (cc)
  same_there x (Some y) t s = subst (λ z. is_there rs z ≡ true) ((bytes_eq-Decides x y).0 s) t

  block_whole : (x : Text) → is_there rs x ≡ true → (areas : List Area) → list_any (λ a. same_block (Some x) a.name) areas ≡ true → list_any (λ a. block_repeats rs a.name) areas ≡ true
  block_whole x t [] e = absurd (cc)
  block_whole x t (a ∷ areas) e = elim (either (same_block (Some x) a.name) (list_any (λ a. same_block (Some x) a.name) areas) e) [
    | inl here ↦ ap (λ b. b || list_any (λ a. block_repeats rs a.name) areas) (same_there x a.name t here)
    | inr more ↦ or_right (block_repeats rs a.name) (list_any (λ a. block_repeats rs a.name) areas) (block_whole x t areas more)
  ]

  act_sound : (a : Act) → act_repeats rs a ≡ true → (x : Text) × (names_block (Some x) a ≡ true) × (is_there rs x ≡ true)
  act_sound (Common areas) e = block_sound areas e
  act_sound _ e = absurd (cc)

  act_whole : (a : Act) (x : Text) → names_block (Some x) a ≡ true → is_there rs x ≡ true → act_repeats rs a ≡ true
  act_whole (Common areas) x e t = block_whole x t areas e
  act_whole _ x e t = absurd (cc)

-- parts

module _ (p : Program) where
  header_sound : (u : ℕ) (r : Routine) → slice_get p.units u ≡ Some r → header_repeats p.units u r.header ≡ true → RepeatsName p (at_part u 0)
  header_sound u r here e =
      let x = some_passes (is_taken p.units u) (own_name r.header) e in
      let h : IsHeader p (at_part u 0) = record { unit = r; here = here; number = refl } in
      elim (either (is_below u (unit_named x.0 p.units)) (is_intrinsic x.0) x.2) [
        | inl b ↦ (let v = below_is u (unit_named x.0 p.units) b in of_unit h x.0 (named_own r.header x.0 x.1) v.0 v.2 v.1)
        | inr i ↦ of_intrinsic h x.0 (named_own r.header x.0 x.1) i
      ]

  part_sound : (u : ℕ) (r : Routine) (i : ℕ) → slice_get p.units u ≡ Some r → part_repeats p.units u r i ≡ true → RepeatsName p (at_part u i)
  part_sound u r zero here e = header_sound u r here e
  part_sound u r (suc i) here e =
      let s = some_passes (λ (l : Line). act_repeats p.units l.act) (slice_get r.lines i) e in
      let x = act_sound p.units s.0.act s.2 in
      let v = some_number (unit_named x.0 p.units) x.2 in
      of_block (record { unit = r; index = i; line = s.0; here = here; number = refl; stands = s.1 }) x.0 v.0 x.1 v.1

  header_whole : (u : ℕ) (h : Header) (x : Text) → is_called x h ≡ true → is_taken p.units u x ≡ true → header_repeats p.units u h ≡ true
  header_whole u h x c t = ap (is_some_and (is_taken p.units u)) (own_named h x c) ∙ t

  part_whole : (q : Part) → RepeatsName p q → (r : Routine) × (slice_get p.units q.unit ≡ Some r) × (part_repeats p.units q.unit r q.part ≡ true)
  part_whole q (of_unit h x c v lt n) =
      let taken : is_taken p.units q.unit x ≡ true = ap (λ o. is_below q.unit o || is_intrinsic x) n ∙ ap (λ b. b || is_intrinsic x) ((Decides-ltb v q.unit).1 lt) in
      (h.unit, h.here, ap (part_repeats p.units q.unit h.unit) h.number ∙ header_whole q.unit h.unit.header x c taken)
  part_whole q (of_intrinsic h x c i) =
      (h.unit, h.here, ap (part_repeats p.units q.unit h.unit) h.number ∙ header_whole q.unit h.unit.header x c (or_right (is_below q.unit (unit_named x p.units)) (is_intrinsic x) i))
  part_whole q (of_block l x v n e) =
      let there : is_there p.units x ≡ true = ap (λ o. not (is_nothing o)) e in
      (l.unit, l.here, ap (part_repeats p.units q.unit l.unit) l.number ∙ ap (is_some_and (λ (s : Line). act_repeats p.units s.act)) l.stands ∙ act_whole p.units l.line.act x n there)

  pub repeat_kept : AreClear p.units → IsKept DuplicateUnit p
  repeat_kept clear q b = (let h = part_whole q b in let t = h.2 in let f = clear q.unit h.0 h.1 q.part in cc)

  module _ (spot : Place) (h : IsFirstRepeat p.units spot) where
    repeat_earlier : (q : Part) → IsEarlier q (at_part h.number h.first.part) → RepeatsName p q → ⊥
    repeat_earlier q (inl lt) b = (let w = part_whole q b in let t = w.2 in let f = h.earlier q.unit w.0 lt w.1 q.part in cc)
    repeat_earlier q (inr e) b =
        let w = part_whole q b in
        let same : w.0 ≡ h.unit = same_unit (slice_get p.units q.unit) w.1 (ap (slice_get p.units) e.0 ∙ h.here) in
        let t : part_repeats p.units h.number h.unit q.part ≡ true =
        ap (λ r. part_repeats p.units h.number r q.part) (sym same) ∙ ap (λ u. part_repeats p.units u w.0 q.part) (sym e.0) ∙ w.2 in
        let f = h.first.earlier q.part e.1 in
        cc

    pub repeat_broken : (f : Fault) → f.kind ≡ DuplicateUnit → f.number ≡ 0 → f.place ≡ spot → IsFirstBroken DuplicateUnit p f
    repeat_broken f k n place = record {
      kind = k;
      number = n;
      part = at_part h.number h.first.part;
      broken = part_sound h.number h.unit h.first.part h.here h.first.broken;
      earlier = repeat_earlier;
      place = place_here p (at_part h.number h.first.part) h.unit h.here ∙ h.first.place ∙ ap Some (sym place);
    }

-- the parts of a unit one by one

module _ (rs : List Routine) (u : ℕ) (r : Routine) where
  pub header_only : header_repeats rs u r.header ≡ false → (i : ℕ) → i ≤ 0 → part_repeats rs u r i ≡ false
  header_only e zero le = e
  header_only e (suc i) le = absurd (omega (arith, le))

  pub first_header : header_repeats rs u r.header ≡ true → IsFirstIn rs u r r.place
  first_header e = record { part = 0; broken = e; earlier = λ i lt. absurd (omega (arith, lt)); place = refl }

  module _ (n : ℕ) (before : (i : ℕ) → i ≤ n → part_repeats rs u r i ≡ false) where
    pub parts_more : (l : Line) → slice_get r.lines n ≡ Some l → act_repeats rs l.act ≡ false → (i : ℕ) → i ≤ n + 1 → part_repeats rs u r i ≡ false
    parts_more l here f i le =
        let last : part_repeats rs u r (suc n) ≡ false = ap (is_some_and (λ (s : Line). act_repeats rs s.act)) here ∙ f in
        elim (cases_lt i (suc n)) [
          | inl k ↦ before i (omega (arith, k))
          | inr k ↦ (let e : i ≡ suc n = omega (arith, k, le) in ap (part_repeats rs u r) e ∙ last)
        ]

    pub first_line : (l : Line) → slice_get r.lines n ≡ Some l → act_repeats rs l.act ≡ true → IsFirstIn rs u r l.place
    first_line l here t = record {
      part = suc n;
      broken = ap (is_some_and (λ (s : Line). act_repeats rs s.act)) here ∙ t;
      earlier = λ i lt. before i (omega (arith, lt));
      place = ap (option_map (λ (s : Line). s.place)) here;
    }

    behind : length r.lines ≤ n → (i : ℕ) → n < i → part_repeats rs u r i ≡ false
    behind le zero lt = absurd (omega (arith, lt))
    behind le (suc i) lt = ap (is_some_and (λ (s : Line). act_repeats rs s.act)) (slice_get_past r.lines i (omega (arith, le, lt)))

    pub parts_all : length r.lines ≤ n → IsClearUnit rs u r
    parts_all le i = elim (cases_lt n i) [ inl k ↦ behind le i k | inr k ↦ before i (omega (arith, k)) ]

-- the units one by one

pub clear_more : (rs : List Routine) (n : ℕ) (r : Routine) → slice_get rs n ≡ Some r → AreClearBefore rs n → IsClearUnit rs n r → AreClearBefore rs (n + 1)
clear_more rs n r here before clear u s lt at i = elim (cases_lt u n) [
  | inl k ↦ before u s k at i
  | inr k ↦
      let e : u ≡ n = omega (arith, k, lt) in
      let same : s ≡ r = same_unit (slice_get rs u) at (ap (slice_get rs) e ∙ here) in
      ap (λ v. part_repeats rs v s i) e ∙ ap (λ t. part_repeats rs n t i) same ∙ clear i
]

pub clear_all : (rs : List Routine) (n : ℕ) → length rs ≤ n → AreClearBefore rs n → AreClear rs
clear_all rs n le before u r at = before u r (let lt = got_inside rs u r at in omega (arith, le, lt)) at
