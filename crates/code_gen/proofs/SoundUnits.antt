-- The statements of a sound unit are coded: their subscripts are as many as the dimensions, their formats are there, and a
-- logical IF has no DO and no declaration.
use Rattle.std.proofs.Common.{◌≡◌, ℕ, zero, suc, ◌++◌, true, false, true≢false, List, [], ◌∷◌, Option, Some, None, refl, sym, subst, ap, ◌∙◌, arith, slice_get}
use Rattle.std.specs.Prelude.{not, is_some}
use Rattle.std.specs.List.{Contains, AllByRecursion, flat_map, list_any}
use Rattle.std.proofs.lemmas.Bool.{and_parts, or_parts, not-false, not-true, eqb-true}
use Rattle.rule_table.specs.declared.rule.Rule.{Rule}
use Rattle.rule_table.specs.declared.rule.Rule.TheVariants.{Syntax, TypeClash, WrongCount, NotAssignable}
use Rattle.rule_table.specs.Words.{is_some_and}
use Rattle.f66_tree.specs.Syntax.{Text, Formula, Item, Group, Plus, Minus, Not, Pair, Formulas, NoFormula, AndFormula, Act, Assign, Sign, When, Loop, Invoke, Read, Write, Entry, One, Many, Entries, NoEntry, AndEntry, Line, Routine}
use Rattle.f66_tree.specs.Units.{Context, is_note, format_of}
use Rattle.f66_tree.specs.Evaluation.{Sort, AnArray, AnIntrinsic, AFunction, sort_of, array_or}
use Rattle.f66_names.specs.NameRules as names
use Rattle.f66_names.specs.NameRules.{miscounts_by, miscounts}
use Rattle.f66_names.specs.declared.name_form.Manner.TheVariants.{Stored}
use Rattle.f66_names.specs.Shapes.{stands, is_branch, has_shape}
use Rattle.f66_names.specs.Sorts.{form_by, takes}
use Rattle.f66_names.specs.StoreRules.{stores_wrong}
use Rattle.f66_names.specs.Uses.{many, uses_of, uses_of_all, uses_of_target, uses_of_par, uses_of_entry, uses_of_entries, uses_of_counting, uses_in}
use Rattle.f66_names.proofs.ContextLemmas.{sizes_of-unlabelled}
use Rattle.f66_flow.specs.FlowRules.{breaks_flow}
use Rattle.f66_flow.specs.declared.scope.Scope.TheVariants.{Whole}
use Rattle.f66_soundness.specs.SoundUnits.{acts_in_unit, finds_format}
use Rattle.f66_soundness.proofs.KindLemmas.{none_of_both}
use Rattle.unit_rules.specs.Called.{passed_in}
use Rattle.unit_rules.specs.Forms.{has_form}
use Rattle.unit_rules.specs.Judged.{judged_uses}
use Rattle.unit_rules.specs.Listed.{any_use}
use Rattle.unit_rules.specs.Types.{clashes}
use Rattle.unit_rules.specs.UnitRules.{breaks_rule}
use Rattle.unit_rules.proofs.JudgedLemmas.{judged_same}
use Rattle.f66_check.specs.CheckRules as check
use Rattle.f66_check.specs.UnitChecks.{breaks_statement}
use Rattle.f66_check.specs.Answers.{IsSoundUnit}
use Rattle.f66_program.specs.Mentions.{Mention, AVariable, ACall, AKnown, applied, mentions_of, mentions_of_all, mentions_of_par, mentions_of_counting, mentions_of_entry, mentions_of_entries, mentions_in}
use Rattle.f66_program.specs.Calls.{Call, call_in}
use Rattle.code_gen.specs.Layout.{Layout}
use Rattle.code_gen.specs.Expressions.{count}
use Rattle.code_gen.specs.Coded.{LiesBelow, HasResult, Fits, Counted, CountedAll, MayStand, CodedItems, CodedEntry, Coded, CodedAll}
use Rattle.code_gen.specs.SoundUnits.{SoundIsCoded}

many_is : (es : Formulas) → many es ≡ count es
many_is NoFormula = refl
many_is (AndFormula e es) = let ih = many_is es in omega arith

both : (Q : Mention → Type 0) (ms ns : List Mention) → AllByRecursion Q (ms ++ ns) → AllByRecursion Q ms × AllByRecursion Q ns
both Q [] ns h = (tt, h)
both Q (m ∷ ms) ns h = let r = both Q ms ns h.1 in ((h.0, r.0), r.1)

module _ (y : Layout) (u : ℕ) (c : Context) (sorts : (x : Text) → sort_of c x ≡ sort_of (y.linked.context u) x) where
  abbrev d : Context
  d = y.linked.context u

  -- a name that is mentioned may be called where it is
  abbrev MayCall : Mention → Type 0
  MayCall (AVariable x) = Unit {0}
  MayCall (AKnown x) = Unit {0}
  MayCall (ACall true x es) = LiesBelow y u x
  MayCall (ACall false x es) = LiesBelow y u x × HasResult y x

  abbrev May : List Mention → Type 0
  May ms = AllByRecursion MayCall ms

  each_call : (ms : List Mention) → ((k : Call) → Contains (flat_map call_in ms) k → LiesBelow y u k.name × (k.by_call ≡ false → HasResult y k.name)) → May ms
  each_call [] h = tt
  each_call (AVariable x ∷ ms) h = (tt, each_call ms h)
  each_call (AKnown x ∷ ms) h = (tt, each_call ms h)
  each_call (ACall true x es ∷ ms) h =
      ((h (record { by_call = true; name = x; actuals = es }) (0, omega arith, refl)).0, each_call ms (λ k m. let lt = m.1 in h k (suc m.0, omega (arith, lt), m.2)))
  each_call (ACall false x es ∷ ms) h =
      let r = h (record { by_call = false; name = x; actuals = es }) (0, omega arith, refl) in
      ((r.0, r.1 refl), each_call ms (λ k m. let lt = m.1 in h k (suc m.0, omega (arith, lt), m.2)))

  fits_by : (x : Text) (so : Sort) (es : Formulas) → (not (takes (form_by so) (many es)) ≡ false) → MayCall (applied x es so) → Fits y u x so (count es)
  fits_by x (AnArray ns) es h may = sym (many_is es) ∙ eqb-true (many es) _ (not-false _ h)
  fits_by x (AnIntrinsic g) es h may = tt
  fits_by x AFunction es h may = may

  -- a place with parentheses that is stored into
  stored_by : (x : Text) (so : Sort) (es : Formulas) → miscounts_by (form_by so) (Stored (many es)) ≡ false → MayCall (applied x es so) → Fits y u x so (count es)
  stored_by x (AnArray ns) es h may = fits_by x (AnArray ns) es h may
  stored_by x (AnIntrinsic g) es h may = tt
  stored_by x AFunction es h may = may

  mutual
    counted : (e : Formula) → list_any (miscounts c) (uses_of e) ≡ false → May (mentions_of d e) → Counted y u e
    counted (Item x es) h may =
        let p = or_parts (not (takes (form_by (sort_of c x)) (many es))) _ h in
        (fits_by x (sort_of d x) es (subst (λ so. not (takes (form_by so) (many es)) ≡ false) (sorts x) p.0) may.0, counted_all es p.1 may.1)
    counted (Group a) h may = counted a h may
    counted (Plus a) h may = counted a h may
    counted (Minus a) h may = counted a h may
    counted (Not a) h may = counted a h may
    counted (Pair op a b) h may =
        let p = none_of_both (miscounts c) (uses_of a) (uses_of b) h in
        let m = both MayCall (mentions_of d a) (mentions_of d b) may in
        (counted a p.0 m.0, counted b p.1 m.1)
    counted _ h may = tt

    counted_all : (es : Formulas) → list_any (miscounts c) (uses_of_all es) ≡ false → May (mentions_of_all d es) → CountedAll y u es
    counted_all NoFormula h may = tt
    counted_all (AndFormula e es) h may =
        let p = none_of_both (miscounts c) (uses_of e) (uses_of_all es) h in
        let m = both MayCall (mentions_of d e) (mentions_of_all d es) may in
        (counted e p.0 m.0, counted_all es p.1 m.1)

  counted_target : (e : Formula) → list_any (miscounts c) (uses_of_target e) ≡ false → May (mentions_of d e) → Counted y u e
  counted_target (Item x es) h may =
      let p = or_parts _ _ h in
      (stored_by x (sort_of d x) es (subst (λ so. miscounts_by (form_by so) (Stored (many es)) ≡ false) (sorts x) p.0) may.0, counted_all es p.1 may.1)
  counted_target e h may = counted e h may

  mutual
    items : (es : Entries) → list_any (miscounts c) (uses_of_entries es) ≡ false → May (mentions_of_entries d es) → CodedItems y u es
    items NoEntry h may = tt
    items (AndEntry e es) h may =
        let q = none_of_both (miscounts c) (uses_of_entry e) (uses_of_entries es) h in
        let m = both MayCall (mentions_of_entry d e) (mentions_of_entries d es) may in
        (entry e q.0 m.0, items es q.1 m.1)

    entry : (e : Entry) → list_any (miscounts c) (uses_of_entry e) ≡ false → May (mentions_of_entry d e) → CodedEntry y u e
    entry (One e) h may = counted_target e h may
    entry (Many es x a b f) h may =
        items es (none_of_both (miscounts c) (uses_of_entries es) (uses_of_counting x a b f) h).0 (both MayCall (mentions_of_entries d es) (mentions_of_counting x a b f) may).0

  may_stand : (a : Act) → is_branch a ≡ true → MayStand a
  may_stand (When e a) h = absurd (true≢false (sym h))
  may_stand (Loop l x a b f) h = absurd (true≢false (sym h))
  may_stand a h = not-true (is_note a) h

  there : {A : Type 0} (o : Option A) → is_some o ≡ true → (f : A) × (o ≡ Some f)
  there None e = absurd (true≢false (sym e))
  there (Some f) e = (f, refl)

  -- what the rules say of a statement
  record Obeys (a : Act) : Type 0 where
    shape : has_form a ≡ true
    counts : list_any (miscounts c) (uses_in a) ≡ false
    passed : list_any (miscounts c) (uses_of_all (passed_in a)) ≡ false
    formats : finds_format d.notes a ≡ true
    calls : May (mentions_in d a)

  coded : (a : Act) → Obeys a → Coded y u a
  coded (Assign x e) h =
      let q = none_of_both (miscounts c) (uses_of_target x) (uses_of e) h.counts in
      let m = both MayCall (mentions_of d x) (mentions_of d e) h.calls in
      (counted_target x q.0 m.0, counted e q.1 m.1)
  coded (Sign e l m k) h = counted e h.counts h.calls
  coded (When e a) h =
      let q = none_of_both (miscounts c) (uses_of e) (uses_in a) h.counts in
      let m = both MayCall (mentions_of d e) (mentions_in d a) h.calls in
      let t = and_parts (has_shape (When e a)) (has_form a) h.shape in
      let s = and_parts (is_branch a) (has_shape a) (and_parts (stands 0 e) _ t.0).1 in
      (counted e q.0 m.0, may_stand a s.0, coded a (record { shape = t.1; counts = q.1; passed = h.passed; formats = h.formats; calls = m.1 }))
  coded (Invoke x es) h = (h.calls.0, counted_all es h.passed h.calls.1)
  coded (Read a l es) h = (items es (none_of_both (miscounts c) (uses_of_par a) (uses_of_entries es) h.counts).1 (both MayCall (mentions_of_par a) (mentions_of_entries d es) h.calls).1, there (format_of l d.notes) h.formats)
  coded (Write a l es) h = (items es (none_of_both (miscounts c) (uses_of_par a) (uses_of_entries es) h.counts).1 (both MayCall (mentions_of_par a) (mentions_of_entries d es) h.calls).1, there (format_of l d.notes) h.formats)
  coded _ h = tt

  coded_all : (code : List Line) → ((i : ℕ) (s : Line) → slice_get code i ≡ Some s → Obeys s.act) → CodedAll y u code
  coded_all [] h = tt
  coded_all (s ∷ rest) h = (coded s.act (h zero s refl), coded_all rest (λ i t e. h (suc i) t e))

-- a statement breaks none of the rules
keeps : (r : Routine) → IsSoundUnit r → (i : ℕ) (s : Line) → slice_get r.lines i ≡ Some s → (k : Rule) → breaks_rule (check.context_of r) (acts_in_unit r.lines) i s.act k ≡ false
keeps r sound i s is k =
    (or_parts (breaks_flow Whole r.header r.lines i s k) _
    (subst (λ o. is_some_and (λ t. breaks_statement Whole (check.context_of r) (acts_in_unit r.lines) r.lines i t k) o ≡ false) is (sound.clean (suc i) k))).1

pub sound_is_coded : SoundIsCoded
sound_is_coded y u r sound placed =
    let c = check.context_of r in
    let d = y.linked.context u in
    let sorts : (x : Text) → sort_of c x ≡ sort_of d x = λ x. ap (λ ns. array_or ns x) (sym (sizes_of-unlabelled x r.lines)) ∙ ap (λ e. sort_of e x) (sym placed.context) in
    subst (CodedAll y u) (sym placed.lines) (coded_all y u c sorts r.lines (λ i s is.
    let kinds = (or_parts (clashes c s.act) _ (keeps r sound i s is TypeClash)).0 in
    let stores = (or_parts (stores_wrong c s.act) _ (keeps r sound i s is NotAssignable)).0 in
    let counts = or_parts (any_use c (miscounts c) s.act) _ (or_parts (names.has_wrong_sizes s.act) _ (keeps r sound i s is WrongCount)).1 in
    let uses = or_parts (list_any (miscounts c) (judged_uses c s.act)) _ counts.0 in
    record {
      shape = not-false _ (keeps r sound i s is Syntax);
      counts = sym (ap (list_any (miscounts c)) (judged_same c s.act kinds stores)) ∙ uses.0;
      passed = (none_of_both (miscounts c) (uses_of_all (passed_in s.act)) _ uses.1).0;
      formats = placed.formats i s is;
      calls = each_call y u c sorts (mentions_in d s.act) (λ k m. (placed.below i s k is m, placed.results i s k is m));
    }))
