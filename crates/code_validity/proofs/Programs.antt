-- A whole program of sound units, laid out by its ranks, has all that its code rests on to be valid.
use Rattle.std.proofs.Common.{◌≡◌, inl, inr, ℕ, zero, suc, ◌-◌, ◌<◌, ◌≤◌, Bool, true, false, true≢false, not, List, [], ◌∷◌, length, Option, Some, None, refl, sym, ap, ◌∙◌, subst, arith, length-append}
use Rattle.std.specs.List.{Contains, AllByRecursion, slice_get, flat_map, list_all}
use Rattle.std.proofs.lemmas.List.Elements.{recursion_from_All}
use Rattle.std.proofs.lemmas.Bool.{or_parts, not-false, eqb-true}
use Rattle.ground.specs.Content.{Content}
use Rattle.ground.specs.declared.fault.FaultKind.TheVariants.{MissingUnit, TypeClash, WrongCount}
use Rattle.f66_tree.specs.Syntax.{Text, Formulas, NoFormula, AndFormula, Line, Routine, Header, MainUnit, SubUnit, FuncUnit, DataUnit}
use Rattle.f66_tree.specs.Fields.{Fields}
use Rattle.f66_tree.specs.Units.{Context, Linkage, Note, is_main, dummies_of, notes_of, sizes_of}
use Rattle.f66_names.specs.Shapes.{is_parameter}
use Rattle.f66_flow.specs.Acts.{needs_executable}
use Rattle.f66_soundness.proofs.KindLemmas.{no_some, some_same}
use Rattle.f66_check.specs.CheckRules as check
use Rattle.f66_program.specs.Mentions.{Mention, AVariable, ACall, AKnown, context_of, mentions_in}
use Rattle.f66_program.specs.Calls.{Call, call_in, calls_in, unit_named, fits_header, clashes, many, miscounts}
use Rattle.f66_program.specs.Linking.{Program, at_part, IsLine, IsWhole}
use Rattle.linked_soundness.proofs.PlaceLemmas.{IsJudged}
use Rattle.linked_soundness.proofs.ActLemmas.{FitLines}
use Rattle.linked_soundness.proofs.RuleLemmas.{judged, unit_fit, sound_fit}
use Rattle.stack_code.specs.Instructions.{Instruction}
use Rattle.stack_code.specs.ValidCode.{root, IsValid, is_small}
use Rattle.code_gen.specs.Layout.{Layout, size_in}
use Rattle.code_gen.specs.Expressions.{count, own_code}
use Rattle.code_gen.specs.Statements.{unit_code, units_code}
use Rattle.code_gen.specs.Coded.{IsOwn, top}
use Rattle.code_gen.specs.Behaves.{IsAmong}
use Rattle.code_gen.specs.LayingOut.{layout, LaysOut}
use Rattle.code_gen.specs.Linked.{IsRanked}
use Rattle.code_gen.proofs.LaidOut.{layout_fits}
use Rattle.code_validity.specs.Valid.{storage_size, CompiledIsValid}
use Rattle.code_validity.proofs.Marks as m
use Rattle.code_validity.proofs.Marks.{mark}
use Rattle.code_validity.proofs.Plain.{IsFit}
use Rattle.code_validity.proofs.Places as places
use Rattle.code_validity.proofs.Places.{Site, MayCall}
use Rattle.code_validity.proofs.Bodies.{AreSmall}
use Rattle.code_validity.proofs.Scans.{EndsIn}
use Rattle.code_validity.proofs.Units as joined
use Rattle.code_validity.proofs.Units.{dummies, unit_ends}
use Rattle.code_validity.proofs.Ranks.{lesser, few_lesser, fewer_lesser}
use Rattle.code_validity.proofs.Declared.{sizes_parameters, sound_first}
use Rattle.f66_tree.specs.Execution.{runnable}

-- ---- headers and counts ----

same_count : (es : Formulas) → many es ≡ count es
same_count NoFormula = refl
same_count (AndFormula e es) = ap suc (same_count es)

fits_needs : (c : Context) (k : Call) (h : Header) (notes : List Note) → fits_header c k (record { header = h; notes = notes }) ≡ true → needs_executable h ≡ true
fits_needs c k MainUnit notes e = refl
fits_needs c k (SubUnit x ds) notes e = refl
fits_needs c k (FuncUnit t x ds) notes e = refl
fits_needs c k DataUnit notes e = absurd (true≢false (sym e))

main_needs : (h : Header) → is_main h ≡ true → (needs_executable h ≡ true) × (length (dummies_of h) ≡ 0)
main_needs MainUnit e = (refl, refl)
main_needs (SubUnit x ds) e = absurd (true≢false (sym e))
main_needs (FuncUnit t x ds) e = absurd (true≢false (sym e))
main_needs DataUnit e = absurd (true≢false (sym e))

contains_at : (xs : List Line) (i : ℕ) (s : Line) → slice_get xs i ≡ Some s → Contains xs s
contains_at [] i s e = no_some _ e
contains_at (x ∷ xs) zero s e = (0, omega arith, some_same e)
contains_at (x ∷ xs) (suc i) s e = let c = contains_at xs i s e in let lt = c.1 in (suc c.0, omega (arith, lt), c.2)

-- what holds of each call holds of each name that calls
each_call : (callee : ℕ → ℕ → Type 0) (plans units : ℕ) (y : Layout) (ms : List Mention) → ((k : Call) → Contains (flat_map call_in ms) k → places.Leads callee plans units y k.by_call k.name (count k.actuals)) → AllByRecursion (MayCall callee plans units y) ms
each_call callee plans units y [] h = tt
each_call callee plans units y (AVariable x ∷ ms) h = (tt, each_call callee plans units y ms h)
each_call callee plans units y (AKnown x ∷ ms) h = (tt, each_call callee plans units y ms h)
each_call callee plans units y (ACall b x es ∷ ms) h =
    (h (record { by_call = b; name = x; actuals = es }) (0, omega arith, refl), each_call callee plans units y ms (λ k c. let lt = c.1 in h k (suc c.0, omega (arith, lt), c.2)))

-- ---- sizes ----

ends_some : (x : Instruction) (is : List Instruction) → EndsIn x is → 1 ≤ length is
ends_some x [] h = absurd h
ends_some x (j ∷ is) h = omega arith

-- each unit has an instruction
units_long : (y : Layout) (us : List ℕ) → length us ≤ length (units_code y us)
units_long y [] = omega arith
units_long y (u ∷ us) =
    let ih = units_long y us in
    let some = ends_some _ (unit_code y u) (unit_ends y u) in
    let long = length-append (unit_code y u) (units_code y us) in
    omega (arith, ih, some, long)

stored_within : (y : Layout) (us : List ℕ) (u : ℕ) → IsAmong u us → top y u ≤ storage_size y us
stored_within y [] u among = absurd among
stored_within y (v ∷ us) u (inl e) = subst (λ w. top y w ≤ storage_size y (v ∷ us)) (sym e) (omega arith)
stored_within y (v ∷ us) u (inr among) = let le = stored_within y us u among in omega (arith, le)

module _ (p : Program) (l : Linkage) (lines : ℕ → List Line) (plan : ℕ → ℕ → ℕ) (presets : List (ℕ × Content)) (bound : ℕ) (rank : ℕ → ℕ) (others : List ℕ) (plans : List Fields) (units : ℕ)
    (whole : IsWhole p) (ranked : IsRanked p.units l lines plan presets bound rank others plans) (values : AreSmall presets)
    (stored : storage_size (layout l lines plan presets bound rank (l.main ∷ others)) (l.main ∷ others) ≤ units) where
  abbrev us : List ℕ
  us = l.main ∷ others

  abbrev y : Layout
  y = layout l lines plan presets bound rank us

  fits : LaysOut y bound rank us
  fits = layout_fits l lines plan presets bound rank us ranked.distinct

  abbrev depth : ℕ → ℕ
  depth u = lesser rank us (rank u)

  wide : (u : ℕ) → IsAmong u us → top y u ≤ units
  wide u among = let le = stored_within y us u among in omega (arith, le, stored)

  low : bound ≤ units
  low =
      let a = fits.above l.main in
      let b = fits.below l.main in
      let t = wide l.main (inl refl) in
      omega (arith, a, b, t)

  abbrev Callee : ℕ → ℕ → ℕ → Type 0
  Callee u = joined.Callee y us fits.entered depth plans units bound low ranked.below values u

  abbrev IsSound : ℕ → Type 0
  IsSound u = joined.IsSound y us fits.entered depth plans units bound low ranked.below values u

  -- the places of a unit's name are in the store
  own_fit : (callee : ℕ → ℕ → Type 0) (u : ℕ) → IsAmong u us → (x : Text) → IsOwn l u x → IsFit callee (length plans) units (own_code y u x)
  own_fit callee u among x own =
      let laid = ranked.laid u among in
      let has = laid.has x own in
      let last = size_in (l.context u) x - 1 in
      let within : last < size_in (l.context u) x = omega (arith, has) in
      let below = laid.below x last own within in
      let runs = laid.runs x last own within in
      (has, omega (arith, has, below, runs, low))

  -- ---- calls ----

  runs : (u : ℕ) (r : Routine) → slice_get p.units u ≡ Some r → needs_executable r.header ≡ true → joined.Runs y u
  runs u r here needs =
      let f = sound_first r (ranked.sound u r here) needs in
      (f.0, f.1, ap runnable (ranked.codes u r here) ∙ f.2)

  same_dummies : (u : ℕ) (r : Routine) → slice_get p.units u ≡ Some r → dummies y u ≡ length (dummies_of r.header)
  same_dummies u r here = ap (λ c. length (dummies_of c.header)) (ranked.linked.contexts u r here)

  module _ (u : ℕ) (r : Routine) (here : slice_get p.units u ≡ Some r) (i : ℕ) (s : Line) (stands : slice_get r.lines i ≡ Some s) where
    abbrev line : IsLine p (at_part u (suc i))
    line = record { unit = r; index = i; line = s; here = here; number = refl; stands = stands }

    abbrev IsHere : Call → Type 0
    IsHere k = Contains (calls_in (context_of r) s.act) k

    call_named : (k : Call) → IsHere k → (o : Option ℕ) → unit_named k.name p.units ≡ o → (v : ℕ) × (unit_named k.name p.units ≡ Some v)
    call_named k called None is = absurd (whole.clean MissingUnit (at_part u (suc i)) (record { at = line; call = k; called = called; holds = is }))
    call_named k called (Some v) is = (v, is)

    module _ (k : Call) (called : IsHere k) (v : ℕ) (to : unit_named k.name p.units ≡ Some v) (t : Routine) (there : slice_get p.units v ≡ Some t) where
      counted : (b : Bool) → miscounts k t ≡ b → length (dummies_of t.header) ≡ count k.actuals
      counted true is = absurd (whole.clean WrongCount (at_part u (suc i)) (record { at = line; call = k; called = called; holds = record { number = v; unit = t; to = to; here = there; holds = is } }))
      counted false is = sym (eqb-true (many k.actuals) (length (dummies_of t.header)) (not-false _ is)) ∙ same_count k.actuals

      agrees : (b : Bool) → clashes (context_of r) k t ≡ b → needs_executable t.header ≡ true
      agrees true is = absurd (whole.clean TypeClash (at_part u (suc i)) (record { at = line; call = k; called = called; holds = record { number = v; unit = t; to = to; here = there; holds = is } }))
      agrees false is = fits_needs (context_of r) k t.header (notes_of t.lines) (not-false _ (or_parts (not (fits_header (context_of r) k (context_of t))) _ is).0)

      leads : places.Leads (Callee u) (length plans) units y k.by_call k.name (count k.actuals)
      leads =
          let among : IsAmong v us = inr (ranked.called k.name v to) in
          let entry = joined.at_entry y us fits.entered v among (runs v t there (agrees (clashes (context_of r) k t) refl)) in
          let many_dummies : dummies y v ≡ count k.actuals = same_dummies v t there ∙ counted (miscounts k t) refl in
          let falls = ranked.ranks u v (record { unit = r; line = s; call = k; here = here; stands = contains_at r.lines i s stands; called = called; to = to }) in
          record {
            unit = v;
            found = ranked.linked.finds k.name ∙ to;
            entered = record {
              begins = entry.0;
              unit = v;
              marked = subst (λ n. slice_get (joined.marks y us fits.entered) (y.entry v) ≡ Some (mark (root n) v)) many_dummies entry.1;
              beneath = fewer_lesser rank v (rank u) us among falls;
            };
            result = λ e. own_fit (Callee u) v among k.name (ranked.results k.name v to);
          }

    call_leads : (k : Call) → IsHere k → places.Leads (Callee u) (length plans) units y k.by_call k.name (count k.actuals)
    call_leads k called =
        let named = call_named k called (unit_named k.name p.units) refl in
        let there = ranked.there named.0 (inr (ranked.called k.name named.0 named.1)) in
        leads k called named.0 named.1 there.0 there.1

  -- ---- units ----

  sound_unit : (u : ℕ) → IsAmong u us → (r : Routine) → slice_get p.units u ≡ Some r → IsSound u
  sound_unit u among r here =
      let sound = ranked.sound u r here in
      let fit = sound_fit r sound in
      let told = sym (ranked.linked.contexts u r here) in
      let c = check.context_of r in
      let May : Mention → Type 0 = MayCall (Callee u) (length plans) units y in
      let all : FitLines May c (context_of r) r.lines = unit_fit r fit May (λ i s stands. each_call (Callee u) (length plans) units y (mentions_in (context_of r) s.act) (call_leads u r here i s stands)) in
      record {
        context = c;
        site = record {
          judged = subst (IsJudged c) told (judged r fit);
          parameters = λ x. subst (λ d. list_all is_parameter (sizes_of x d.notes) ≡ true) told (sizes_parameters x r.lines (λ i s is. (fit.rules i s is).form));
          dummies = refl;
          own = own_fit (Callee u) u among;
        };
        planned = ranked.planned u;
        wide = wide u among;
        fit = subst (λ d. FitLines May c d (lines u)) told (subst (FitLines May c (context_of r)) (sym (ranked.codes u r here)) all);
        room = fits.room u;
      }

  valid : IsValid (units_code y us) (length plans) units
  valid =
      let main = ranked.linked.main in
      let needs = main_needs main.0.header main.2 in
      let is_first = ap (λ c. is_main c.header) (ranked.linked.contexts l.main main.0 main.1) ∙ main.2 in
      let none = same_dummies l.main main.0 main.1 ∙ needs.1 in
      let deep : (u : ℕ) → depth u ≤ length (units_code y us) = λ u. let few = few_lesser rank us (rank u) in let long = units_long y us in omega (arith, few, long) in
      let kept = joined.all_kept y us fits.entered depth plans units bound low ranked.below values l.main (inl refl) fits.entered.0 none is_first (runs l.main main.0 main.1 needs.0)
      (λ u among. let r = ranked.there u among in sound_unit u among r.0 r.1) deep in
      m.is_valid (units_code y us) (joined.marks y us fits.entered) depth (λ v. is_main (l.context v).header) (length plans) units kept

pub compiled_is_valid : CompiledIsValid
compiled_is_valid p l lines plan presets bound rank others plans units whole ranked values stored = valid p l lines plan presets bound rank others plans units whole ranked (recursion_from_All (λ q. is_small q.1 ≡ true) presets values) stored
