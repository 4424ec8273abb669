-- What breaks a rule of linking in a program of units with spare variables breaks it in the other program.
use Rattle.std.proofs.Common.{◌≡◌, ◌⊎◌, inl, inr, ℕ, zero, suc, pos, ◌-ℤ◌, true, false, List, [], ◌∷◌, length, map, Option, Some, refl, sym, ap, ◌∙◌, subst}
use Rattle.std.specs.List.{Contains, slice_get}
use Rattle.ground.specs.declared.place.Place.{Place}
use Rattle.ground.specs.declared.fault.FaultKind.{FaultKind}
use Rattle.ground.specs.declared.fault.FaultKind.TheVariants.{DuplicateUnit, MainCount, MissingUnit, TypeClash, WrongCount, Recursion, CommonMismatch, InitialTwice, Limit}
use Rattle.f66_tree.specs.Syntax.{Text, Line, Routine}
use Rattle.f66_tree.specs.Units.{Context, is_main}
use Rattle.f66_program.specs.Mentions.{context_of}
use Rattle.f66_program.specs.Association.{Own, IsSame, ties_of}
use Rattle.f66_program.specs.Calls.{Call, calls_in, is_called, clashes, miscounts, Reaches}
use Rattle.f66_program.specs.Initial.{Preset, presets_of, FillsTwice}
use Rattle.f66_program.specs.Linking.{Program, Part, at_part, first_of, IsLine, IsHeader, names_block, unit_names_block, IsBlockSize, RepeatsName, of_unit, of_intrinsic, of_block, MiscountsMain, second, none, HasCall, LeadsTo, Mismatches, Breaks}
use Rattle.spared_units.specs.Spared.{Pair, said_units, made_units}
use Rattle.spared_units.proofs.Among.{Among, got, among_got, among, contained, passing, passes, some_of}
use Rattle.spared_units.proofs.Notes.{unparted}
use Rattle.spared_units.proofs.Units.{same_blocks}
use Rattle.spared_units.proofs.Places.{pair_made, pair_said, made_at, said_at}
use Rattle.spared_units.proofs.Blocks.{size_back}
use Rattle.spared_units.proofs.Programs.{named_same, tied, presets, IsSaidCall, said_call, clash_same, count_same, reaches}

module _ (ps : List Pair) (finish : Place) where
  abbrev made : Program
  made = record { units = made_units ps; finish = finish }

  abbrev said : Program
  said = record { units = said_units ps; finish = finish }

  -- some part of the other program breaks the rule
  abbrev pub IsBroken : FaultKind → Type 0
  IsBroken k = (q : Part) × Breaks k said q

  -- ---- names of units and blocks ----

  module _ (q : Part) (h : IsHeader made q) where
    abbrev header_pair : (p : Pair) × (slice_get ps q.unit ≡ Some p) × (p.made ≡ h.unit)
    header_pair = pair_made ps q.unit h.unit h.here

    abbrev header_said : IsHeader said q
    header_said = record { unit = header_pair.0.said; here = said_at ps q.unit header_pair.0 header_pair.1; number = h.number }

    called_said : (x : Text) → is_called x h.unit.header ≡ true → is_called x header_pair.0.said.header ≡ true
    called_said x e = subst (λ k. is_called x k ≡ true) (ap (λ r. r.header) (sym header_pair.2) ∙ header_pair.0.spared.header) e

  -- a unit has a statement that names a block where the other has one
  pub record NamesBlock (p : Pair) (b : Option Text) : Type 0 where
    pub index : ℕ
    pub line : Line
    pub stands : slice_get p.said.lines index ≡ Some line
    pub named : names_block b line.act ≡ true

  names_there : (p : Pair) (b : Option Text) (line : Line) → Among p.made.lines line → names_block b line.act ≡ true → NamesBlock p b
  names_there p b line at e =
      let s = passing (λ t. names_block b t.act) p.said.lines (sym (same_blocks p.spare p.said p.made p.spared b) ∙ passes (λ t. names_block b t.act) p.made.lines line at e) in
      let g = got p.said.lines s.0 s.1 in
      record { index = g.0; line = s.0; stands = g.1; named = s.2 }

  abbrev line_said : (u : ℕ) (p : Pair) → slice_get ps u ≡ Some p → (i : ℕ) (s : Line) → slice_get p.said.lines i ≡ Some s → IsLine said (at_part u (suc i))
  line_said u p here i s stands = record { unit = p.said; index = i; line = s; here = said_at ps u p here; number = refl; stands = stands }

  module _ (q : Part) (l : IsLine made q) where
    abbrev line_pair : (p : Pair) × (slice_get ps q.unit ≡ Some p) × (p.made ≡ l.unit)
    line_pair = pair_made ps q.unit l.unit l.here

    stands_made : Among line_pair.0.made.lines l.line
    stands_made = subst (λ r. Among r.lines l.line) (sym line_pair.2) (among_got l.unit.lines l.index l.line l.stands)

  repeats : (q : Part) → RepeatsName made q → IsBroken DuplicateUnit
  repeats q (of_unit h x e v lt to) = (q, of_unit (header_said q h) x (called_said q h x e) v lt (sym (named_same x ps) ∙ to))
  repeats q (of_intrinsic h x e i) = (q, of_intrinsic (header_said q h) x (called_said q h x e) i)
  repeats q (of_block l x v e to) =
      let p = line_pair q l in
      let s = names_there p.0 (Some x) l.line (stands_made q l) e in
      (at_part q.unit (suc s.index), of_block (line_said q.unit p.0 p.1 s.index s.line s.stands) x v s.named (sym (named_same x ps) ∙ to))

  -- ---- mains ----

  main_said : (p : Pair) (r : Routine) → p.made ≡ r → is_main r.header ≡ true → is_main p.said.header ≡ true
  main_said p r e m = subst (λ h. is_main h ≡ true) (ap (λ k. k.header) (sym e) ∙ p.spared.header) m

  mains : (q : Part) → MiscountsMain made q → IsBroken MainCount
  mains q (second u v r s here there lt m n e) =
      let p = pair_made ps u r here in
      let o = pair_made ps v s there in
      (at_part v (first_of o.0.said), second u v p.0.said o.0.said (said_at ps u p.0 p.1) (said_at ps v o.0 o.1) lt (main_said p.0 r p.2 m) (main_said o.0 s o.2 n) refl)
  mains q (none all e) = (at_part (length (said_units ps)) 0, none no_main refl)
    where
      no_main : (r : Routine) → Contains (said_units ps) r → is_main r.header ≡ false
      no_main r c =
          let g = got (said_units ps) r (among (said_units ps) r c) in
          let p = pair_said ps g.0 r g.1 in
          let m : is_main p.0.made.header ≡ false = all p.0.made (contained (made_units ps) p.0.made (among_got (made_units ps) g.0 p.0.made (made_at ps g.0 p.0 p.1))) in
          subst (λ h. is_main h ≡ false) (p.0.spared.header ∙ ap (λ k. k.header) p.2) m

  -- ---- calls ----

  module _ (q : Part) {Holds : Context → Call → Type 0} (h : HasCall made q Holds) where
    abbrev caller : (p : Pair) × (slice_get ps q.unit ≡ Some p) × (p.made ≡ h.at.unit)
    caller = line_pair q h.at

    pub call_there : IsSaidCall caller.0 h.call
    call_there = said_call caller.0 h.at.line (stands_made q h.at) h.call (subst (λ r. Contains (calls_in (context_of r) h.at.line.act) h.call) (sym caller.2) h.called)

    pub holds_there : Holds (context_of caller.0.made) h.call
    holds_there = subst (λ r. Holds (context_of r) h.call) (sym caller.2) h.holds

    -- the call, of which something else holds in the other program
    pub call_said : {Other : Context → Call → Type 0} → Other (context_of caller.0.said) h.call → HasCall said (at_part q.unit (suc call_there.index)) Other
    call_said {Other} k = record { at = line_said q.unit caller.0 caller.1 call_there.index call_there.line call_there.stands; call = h.call; called = call_there.called; holds = k }

  leads_said : (k : Call) (One Other : ℕ → Routine → Type 0) → ((v : ℕ) (p : Pair) → One v p.made → Other v p.said) → LeadsTo made k One → LeadsTo said k Other
  leads_said k One Other f l =
      let p = pair_made ps l.number l.unit l.here in
      record { number = l.number; unit = p.0.said; to = sym (named_same k.name ps) ∙ l.to; here = said_at ps l.number p.0 p.1; holds = f l.number p.0 (subst (One l.number) (sym p.2) l.holds) }

  missing : (q : Part) → Breaks MissingUnit made q → IsBroken MissingUnit
  missing q h = (at_part q.unit (suc (call_there q h).index), call_said q h (sym (named_same h.call.name ps) ∙ holds_there q h))

  clashed : (q : Part) → Breaks TypeClash made q → IsBroken TypeClash
  clashed q h =
      let p = (caller q h).0 in
      let c = call_there q h in (
        at_part q.unit (suc c.index),
        call_said q h (leads_said h.call (λ v r. clashes (context_of p.made) h.call r ≡ true) (λ v r. clashes (context_of p.said) h.call r ≡ true) (λ v o e. sym (clash_same p o h.call c.mentioned) ∙ e) (holds_there q h)),
      )

  counted : (q : Part) → Breaks WrongCount made q → IsBroken WrongCount
  counted q h = (
    at_part q.unit (suc (call_there q h).index),
    call_said q h (leads_said h.call (λ v r. miscounts h.call r ≡ true) (λ v r. miscounts h.call r ≡ true) (λ v o e. sym (count_same o h.call) ∙ e) (holds_there q h)),
  )

  recurs : (q : Part) → Breaks Recursion made q → IsBroken Recursion
  recurs q h = (
    at_part q.unit (suc (call_there q h).index),
    call_said q h
        (leads_said h.call (λ v r. (v ≡ q.unit) ⊎ Reaches (made_units ps) v q.unit) (λ v r. (v ≡ q.unit) ⊎ Reaches (said_units ps) v q.unit) (λ v o e. either e) (holds_there q h)),
  )
    where
      either : {v : ℕ} → (v ≡ q.unit) ⊎ Reaches (made_units ps) v q.unit → (v ≡ q.unit) ⊎ Reaches (said_units ps) v q.unit
      either (inl e) = inl e
      either (inr r) = inr (reaches ps r)

  -- ---- sizes of blocks ----

  mismatched : (q : Part) → Mismatches made q → IsBroken CommonMismatch
  mismatched q h =
      let p = line_pair q h.at in
      let o = pair_made ps h.other h.first h.here in
      let s = names_there p.0 (Some h.block) h.at.line (stands_made q h.at) h.named in (
        at_part q.unit (suc s.index),
        record {
          at = line_said q.unit p.0 p.1 s.index s.line s.stands;
          block = h.block;
          named = s.named;
          other = h.other;
          first = o.0.said;
          here = said_at ps h.other o.0 o.1;
          order = h.order;
          names = sym (same_blocks o.0.spare o.0.said o.0.made o.0.spared (Some h.block)) ∙ subst (λ r. unit_names_block (Some h.block) r ≡ true) (sym o.2) h.names;
          none = λ v r lt here.
              let k = pair_said ps v r here in
              subst (λ t. unit_names_block (Some h.block) t ≡ false) k.2
              (sym (same_blocks k.0.spare k.0.said k.0.made k.0.spared (Some h.block)) ∙ h.none v k.0.made lt (made_at ps v k.0 k.1));
          size = h.size;
          first_size = h.first_size;
          is_size = size_back p.0 (Some h.block) h.size (subst (λ r. IsBlockSize r (Some h.block) h.size) (sym p.2) h.is_size);
          is_first_size = size_back o.0 (Some h.block) h.first_size (subst (λ r. IsBlockSize r (Some h.block) h.first_size) (sym o.2) h.is_first_size);
          differ = h.differ;
        },
      )

  -- ---- initial values ----

  -- a place that is filled at the same number in the list of all, by the same unit
  preset_said : (j : ℕ) (k : Preset) → slice_get (presets_of (made_units ps)) j ≡ Some k → (o : Preset) × (slice_get (presets_of (said_units ps)) j ≡ Some o) × (unparted o ≡ unparted k)
  preset_said j k e = found (presets_of (said_units ps)) j (subst (λ qs. slice_get qs j ≡ Some (unparted k)) (presets ps) (mapped (presets_of (made_units ps)) j e))
    where
      mapped : (qs : List Preset) (i : ℕ) → slice_get qs i ≡ Some k → slice_get (map unparted qs) i ≡ Some (unparted k)
      mapped [] i f = absurd (cc)
      mapped (o ∷ qs) zero f = ap (λ n. Some (unparted n)) (some_of o k f)
      mapped (o ∷ qs) (suc i) f = mapped qs i f

      found : (qs : List Preset) (i : ℕ) → slice_get (map unparted qs) i ≡ Some (unparted k) → (o : Preset) × (slice_get qs i ≡ Some o) × (unparted o ≡ unparted k)
      found [] i f = absurd (cc)
      found (o ∷ qs) zero f = (o, refl, some_of (unparted o) (unparted k) f)
      found (o ∷ qs) (suc i) f = found qs i f

  twice : (u i : ℕ) → FillsTwice (made_units ps) u i → IsBroken InitialTwice
  twice u i h =
      let a = preset_said h.first h.one h.one_is in
      let b = preset_said h.second h.other h.other_is in (
        at_part b.0.unit (suc b.0.part),
        (
          b.0.part,
          refl,
          record {
            first = h.first;
            second = h.second;
            order = h.order;
            one = a.0;
            other = b.0;
            one_is = a.1;
            other_is = b.1;
            in_unit = refl;
            in_part = refl;
            same =
                subst (λ o. IsSame (ties_of (said_units ps)) (Own a.0.unit a.0.name) (Own o.unit o.name) (pos o.at -ℤ pos a.0.at)) (sym b.2)
                (subst (λ o. IsSame (ties_of (said_units ps)) (Own o.unit o.name) (Own h.other.unit h.other.name) (pos h.other.at -ℤ pos o.at)) (sym a.2)
                (subst (λ ts. IsSame ts (Own h.one.unit h.one.name) (Own h.other.unit h.other.name) (pos h.other.at -ℤ pos h.one.at)) (tied ps) h.same));
          },
        ),
      )

  -- but for the limit
  pub broken : (k : FaultKind) (q : Part) → Breaks k made q → IsBroken k ⊎ (k ≡ Limit)
  broken DuplicateUnit q h = inl (repeats q h)
  broken MainCount q h = inl (mains q h)
  broken MissingUnit q h = inl (missing q h)
  broken TypeClash q h = inl (clashed q h)
  broken WrongCount q h = inl (counted q h)
  broken Recursion q h = inl (recurs q h)
  broken CommonMismatch q h = inl (mismatched q h)
  broken InitialTwice q h = inl (twice q.unit h.0 h.2)
  broken Limit q h = inr refl
  broken _ q h = absurd h
