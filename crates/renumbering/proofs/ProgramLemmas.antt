-- A program of units with right places has what two runs of its units rest on, over any two of its linkages.
use Rattle.std.proofs.Common.{◌≡◌, ◌<◌, ℕ, zero, suc, Bool, true, false, List, [], ◌∷◌, Option, Some, None, ◌⊎◌, inl, inr, refl, sym, ap, ◌∙◌, subst, arith}
use Rattle.std.specs.Prelude.{◌↔◌, ◌||◌, nat_lt, length, slice_index_or, if◌then◌else◌}
use Rattle.std.specs.List.{AllByRecursion, Contains, list_any, slice_get, flat_map}
use Rattle.std.specs.Str.{bytes_eq}
use Rattle.std.proofs.lemmas.Bool.{or_parts, or_left, or_right, not-false, ltb-true}
use Rattle.std.proofs.lemmas.Bool.Decides.{eqb_tells}
use Rattle.std.proofs.lemmas.List.Elements.{All-contains}
use Rattle.f66_tree.specs.Syntax.{Text, Formulas, Line, Routine}
use Rattle.f66_tree.specs.Units.{Context, dummies_of, position, sizes_of, places_of, Linkage}
use Rattle.f66_tree.specs.Uses.{Using, NamesOfPars, NamesOfActBy, NamesOfLinesBy}
use Rattle.f66_tree.specs.Evaluation.{Sort, AnArray, AnIntrinsic, AFunction, sort_of}
use Rattle.f66_soundness.proofs.KindLemmas.{no_some, some_same}
use Rattle.f66_program.specs.Mentions.{Mention, AVariable, ACall, AKnown, context_of, mentions_in, is_variable, is_dummy, has_places}
use Rattle.f66_program.specs.Association.{IsReal}
use Rattle.f66_program.specs.Calls.{Call, call_in, calls_in, is_called, one_further, unit_named, fits_header, clashes}
use Rattle.f66_program.specs.Initial.{Preset, presets_of}
use Rattle.f66_program.specs.Linking.{Program, at_part, IsLinkage}
use Rattle.linked_soundness.specs.Laws.{AreCodes}
use Rattle.renumbering.specs.Laws.{IsMatched}
use Rattle.renumbering.specs.Bodies.{HasPlaces, CallsFunction, ListedBy, InUnit, names_in}
use Rattle.renumbering.specs.Placed.{IsPlaced}
use Rattle.renumbering.proofs.PairLemmas.{Applied, Twins, Agree}
use Rattle.renumbering.proofs.RunLemmas.{CodesNamed}
use Rattle.renumbering.proofs.MentionLemmas.{IsFine, names_of_act}
use Rattle.renumbering.proofs.SoundLemmas.{not_dummy, has_one, sizes_named, value_has_places, function_header}
use Rattle.renumbering.proofs.PresetLemmas.{itself, told_there, presets_real}

-- ---- units by their names ----

abbrev IsThere : Text → List Routine → ℕ → Type 0
IsThere q rs v = (r : Routine) × (slice_get rs v ≡ Some r) × (is_called q r.header ≡ true)

unit_there : (q : Text) (rs : List Routine) (v : ℕ) → unit_named q rs ≡ Some v → IsThere q rs v
unit_there q [] v e = no_some _ e
unit_there q (r ∷ rs) v e = by_name (is_called q r.header) refl (unit_named q rs) (unit_there q rs) e
  where
    by_name : (b : Bool) → is_called q r.header ≡ b → (o : Option ℕ) → ((w : ℕ) → o ≡ Some w → IsThere q rs w) → (if b then Some zero else one_further o) ≡ Some v → IsThere q (r ∷ rs) v
    by_name true c o there is = subst (IsThere q (r ∷ rs)) (some_same is) (r, refl, c)
    by_name false c None there is = no_some _ is
    by_name false c (Some w) there is = (let n = there w refl in subst (IsThere q (r ∷ rs)) (some_same is) (n.0, n.1, n.2))

-- ---- what a list of mentions has ----

each_mention : (Q : Mention → Type 0) (ms : List Mention) → ((x : Text) (es : Formulas) → Contains (flat_map call_in ms) (record { by_call = false; name = x; actuals = es }) → Q (ACall false x es)) → ((x : Text) (es : Formulas) → Q (ACall true x es)) →
    ((x : Text) → list_any (is_variable x) ms ≡ true → Q (AVariable x)) → ((x : Text) → Q (AKnown x)) → AllByRecursion Q ms
each_mention Q [] f g h k = tt
each_mention Q (AVariable x ∷ ms) f g h k = (h x (or_left (bytes_eq x x) _ (itself x)), each_mention Q ms f g (λ y e. h y (or_right (bytes_eq y x) _ e)) k)
each_mention Q (AKnown x ∷ ms) f g h k = (k x, each_mention Q ms f g h k)
each_mention Q (ACall true x es ∷ ms) f g h k = (g x es, each_mention Q ms (λ y ds c. let lt = c.1 in f y ds (suc c.0, omega (arith, lt), c.2)) g h k)
each_mention Q (ACall false x es ∷ ms) f g h k = (f x es (0, omega arith, refl), each_mention Q ms (λ y ds c. let lt = c.1 in f y ds (suc c.0, omega (arith, lt), c.2)) g h k)

lines_named : (U : Using) (code : List Line) → ((i : ℕ) (s : Line) → slice_get code i ≡ Some s → NamesOfActBy U s.act) → NamesOfLinesBy U code
lines_named U [] h = tt
lines_named U (s ∷ code) h = (h zero s refl, lines_named U code (λ i t is. h (suc i) t is))

module _ (p : Program) (placed : (u : ℕ) (r : Routine) → slice_get p.units u ≡ Some r → IsPlaced r) (matched : IsMatched p) where
  abbrev rs : List Routine
  rs = p.units

  -- what has places has a real one
  pub real_at : (u : ℕ) (r : Routine) → slice_get rs u ≡ Some r → (x : Text) → has_places r x ≡ true → IsReal rs u x 0
  real_at u r here x has = record { unit = r; here = here; named = has; inside = has_one r (placed u r here) x has }

  -- a reference calls a function
  calls_function : (u : ℕ) (r : Routine) → slice_get rs u ≡ Some r → (i : ℕ) (s : Line) → slice_get r.lines i ≡ Some s → (k : Call) → k.by_call ≡ false → Contains (calls_in (context_of r) s.act) k → CallsFunction rs k.name
  calls_function u r here i s stands k by called v t to there =
      let n = unit_there k.name rs v to in
      function_header (context_of r) k t.header (context_of t).notes by (fits (clashes (context_of r) k t) refl) (subst (λ q. is_called k.name q.header ≡ true) (some_same (sym n.1 ∙ there)) n.2)
    where
      fits : (b : Bool) → clashes (context_of r) k t ≡ b → fits_header (context_of r) k (context_of t) ≡ true
      fits true is =
          absurd (matched.agree (at_part u (suc i))
          (record { at = record { unit = r; index = i; line = s; here = here; number = refl; stands = stands }; call = k; called = called; holds = record { number = v; unit = t; to = to; here = there; holds = is } }))
      fits false is = not-false _ (or_parts _ _ is).0

  -- what holds of a unit holds of the one with its number
  only : (P : Routine → Type 0) (u : ℕ) (r : Routine) → slice_get rs u ≡ Some r → P r → InUnit rs u P
  only P u r here h q there = subst P (some_same (sym here ∙ there)) h

  -- ---- a unit's own statements ----

  act_named : (u : ℕ) (r : Routine) (here : slice_get rs u ≡ Some r) (i : ℕ) (s : Line) → slice_get r.lines i ≡ Some s → NamesOfActBy (names_in rs u) s.act
  act_named u r here i s stands =
      names_of_act rs r (names_in rs u) (λ x h. only (λ q. HasPlaces q x) u r here h) (λ x h. only (λ q. ListedBy rs q x (sort_of (context_of q) x)) u r here h) (λ x. tt) s.act
      (each_mention (IsFine rs r) (mentions_in (context_of r) s.act)
      (λ x es called. calls_function u r here i s stands (record { by_call = false; name = x; actuals = es }) refl called) (λ x es. tt)
      (λ x e. by_dummy x (is_dummy x r.header) refl e) (λ x. tt))
    where
      by_dummy : (x : Text) (b : Bool) → is_dummy x r.header ≡ b → list_any (is_variable x) (mentions_in (context_of r) s.act) ≡ true → HasPlaces r x
      by_dummy x true d e = or_left (is_dummy x r.header) _ d
      by_dummy x false d e = or_right (is_dummy x r.header) _ (told_there rs u r here (placed u r here) i s stands x d e)

  pub unit_named_so : (u : ℕ) (r : Routine) → slice_get rs u ≡ Some r → NamesOfLinesBy (names_in rs u) r.lines
  unit_named_so u r here = lines_named (names_in rs u) r.lines (act_named u r here)

  module _ (l m : Linkage) (first : IsLinkage rs l) (second : IsLinkage rs m) where
    told : (u : ℕ) (r : Routine) → slice_get rs u ≡ Some r → (Q : Context → Type 0) → Q (context_of r) → Q (m.context u)
    told u r here Q h = subst Q (sym (second.contexts u r here)) h

    pub name_stands : (u : ℕ) (x : Text) (r : Routine) → slice_get rs u ≡ Some r → HasPlaces r x → position x (dummies_of (m.context u).header) ≡ None → IsReal rs u x 0
    name_stands u x r here h none =
        let free = not_dummy r x (subst (λ c. position x (dummies_of c.header) ≡ None) (second.contexts u r here) none) in
        real_at u r here x (subst (λ b. (b || has_places r x) ≡ true) free h)

    -- a function's value has a place in its unit
    value_real : (x : Text) → CallsFunction rs x → (v : ℕ) → m.find x ≡ Some v → IsReal rs v x 0
    value_real x h v e =
        let n = unit_there x rs v (sym (second.finds x) ∙ e) in
        real_at v n.0 n.1 x (value_has_places n.0 (placed v n.0 n.1) x (h v n.0 (sym (second.finds x) ∙ e) n.1))

    abbrev IsApplied : ℕ → Text → Sort → Type 0
    IsApplied u x o = Applied ((names_in rs u).alone x) ((v : ℕ) → m.find x ≡ Some v → IsReal rs v x 0) o

    pub name_listed : (u : ℕ) (x : Text) (r : Routine) → slice_get rs u ≡ Some r → ListedBy rs r x (sort_of (context_of r) x) → IsApplied u x (sort_of (m.context u) x)
    name_listed u x r here h = told u r here (λ c. IsApplied u x (sort_of c x)) (by_sort (sort_of (context_of r) x) h)
      where
        by_sort : (o : Sort) → ListedBy rs r x o → IsApplied u x o
        by_sort (AnArray ns) k = only (λ q. HasPlaces q x) u r here k
        by_sort (AnIntrinsic g) k = tt
        by_sort AFunction k = value_real x k

    pub dimensions_stand : (u : ℕ) (x : Text) (r : Routine) → slice_get rs u ≡ Some r → NamesOfPars (names_in rs u).alone (sizes_of x (m.context u).notes)
    dimensions_stand u x r here =
        told u r here (λ c. NamesOfPars (names_in rs u).alone (sizes_of x c.notes))
        (sizes_named r (placed u r here) (names_in rs u).alone (λ n e. only (λ q. HasPlaces q n) u r here (or_left (is_dummy n r.header) _ e)) x)

    pub further_real : (u : ℕ) (x : Text) (o n : ℕ) → IsReal rs u x o → nat_lt n (places_of (sizes_of x (m.context u).notes)) ≡ true → IsReal rs u x n
    further_real u x o n h e = record {
      unit = h.unit;
      here = h.here;
      named = h.named;
      inside = subst (λ c. n < places_of (sizes_of x c.notes)) (second.contexts u h.unit h.here) (ltb-true n (places_of (sizes_of x (m.context u).notes)) e);
    }

    pub called_there : (x : Text) (v : ℕ) → m.find x ≡ Some v → (r : Routine) × (slice_get rs v ≡ Some r)
    called_there x v e = let n = unit_there x rs v (sym (second.finds x) ∙ e) in (n.0, n.1)

    pub same_numbers : (u : ℕ) (x : Text) (o v : ℕ) (y : Text) (q : ℕ) → IsReal rs u x o → IsReal rs v y q → (l.number u x o ≡ l.number v y q) ↔ (m.number u x o ≡ m.number v y q)
    same_numbers u x o v y q h k =
        let a = first.numbers u x o v y q h k in
        let b = second.numbers u x o v y q h k in
        (λ e. b.1 (a.0 e), λ e. a.1 (b.0 e))

    abbrev pub twins : Twins
    twins = record {
      InRun = λ u. (r : Routine) × (slice_get rs u ≡ Some r);
      Real = IsReal rs;
      used = names_in rs;
      one = l;
      two = m;
      contexts = λ u h. first.contexts u h.0 h.1 ∙ sym (second.contexts u h.0 h.1);
      finds = λ x. first.finds x ∙ sym (second.finds x);
      called = called_there;
      within = λ u x o h. (h.unit, h.here);
      further = further_real;
      stands = λ u x h k. name_stands u x h.0 h.1 (k h.0 h.1);
      listed = λ u x h k. name_listed u x h.0 h.1 (k h.0 h.1);
      dimensions = λ u x h. dimensions_stand u x h.0 h.1;
      numbers = same_numbers;
    }

    pub codes_named : (codes : ℕ → List Line) → AreCodes rs codes → CodesNamed twins codes
    codes_named codes are u h = subst (NamesOfLinesBy (names_in rs u)) (sym (are u h.0 h.1)) (unit_named_so u h.0 h.1)

    -- ---- the contents at first ----

    abbrev At : Linkage → ℕ → Preset → Type 0
    At k n q = k.number q.unit q.name q.at ≡ n

    -- a place is filled by DATA, or by none
    filled_or_not : (k : Linkage) (n : ℕ) (qs : List Preset) → ((q : Preset) × Contains qs q × At k n q) ⊎ ((q : Preset) → Contains qs q → ¬ At k n q)
    filled_or_not k n [] = inr (λ q c e. let lt = c.1 in omega (arith, lt))
    filled_or_not k n (a ∷ qs) = elim (eqb_tells (k.number a.unit a.name a.at) n) [
      | inl same ↦ inl (a, (0, omega arith, refl), same.1)
      | inr other ↦ elim (filled_or_not k n qs) [
        | inl found ↦ inl (found.0, behind a qs found.0 found.1, found.2)
        | inr none ↦ inr (λ q c. not_here a qs q other.1 none c)
      ]
    ]
      where
        behind : (a : Preset) (qs : List Preset) (q : Preset) → Contains qs q → Contains (a ∷ qs) q
        behind a qs q c = let lt = c.1 in (suc c.0, omega (arith, lt), c.2)

        not_here : (a : Preset) (qs : List Preset) (q : Preset) → ¬ At k n a → ((b : Preset) → Contains qs b → ¬ At k n b) → Contains (a ∷ qs) q → ¬ At k n q
        not_here a qs q differs none c e = by_place c.0 c.1 c.2
          where
            by_place : (j : ℕ) → j < length (a ∷ qs) → slice_index_or (a ∷ qs) j q ≡ q → ⊥
            by_place zero lt is = differs (subst (At k n) (sym is) e)
            by_place (suc j) lt is = none q (j, omega (arith, lt), is) e

    real_preset : (q : Preset) → Contains (presets_of rs) q → IsReal rs q.unit q.name q.at
    real_preset q c = All-contains (λ a. IsReal rs a.unit a.name a.at) (presets_of rs) q (presets_real rs placed) c

    pub first_agree : Agree twins l.first m.first
    first_agree u x o h = elim (filled_or_not l (l.number u x o) (presets_of rs)) [
      | inl found ↦
          sym (ap l.first found.2) ∙ first.initial.filled found.0 found.1 ∙ sym (second.initial.filled found.0 found.1)
          ∙ ap m.first ((same_numbers found.0.unit found.0.name found.0.at u x o (real_preset found.0 found.1) h).0 found.2)
      | inr none ↦
          first.initial.empty (l.number u x o) none
          ∙ sym (second.initial.empty (m.number u x o) (λ q c e. none q c ((same_numbers q.unit q.name q.at u x o (real_preset q c) h).1 e)))
    ]
