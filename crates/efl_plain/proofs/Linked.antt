-- The units of an accepted program of EFL over scalars break no rule of linking, but perhaps that of storage.
use Rattle.std.proofs.Common.{◌≡◌, ◌⊎◌, ℕ, zero, suc, Bool, true, false, true≢false, cond, List, [], ◌∷◌, Option, None, Some, inl, inr, refl, sym, ap, ◌∙◌, subst, arith, if◌then◌else◌, ◌&&◌, not}
use Rattle.std.specs.Prelude.{nat_eq, is_none, is_some}
use Rattle.std.specs.List.{Contains, slice_get}
use Rattle.std.specs.Option.{option_or, option_map}
use Rattle.std.specs.Str.{bytes_eq}
use Rattle.std.proofs.lemmas.Bool.{and_parts, and_from, eqb-true, eq-eqb}
use Rattle.std.proofs.lemmas.Option.{none-some, same_Some, slice_get_within, get_or_from_slice_get}
use Rattle.std.proofs.lemmas.List.{get_or_default}
use Rattle.std.proofs.lemmas.List.Elements.{All-contains}
use Rattle.std.proofs.lemmas.List.Folds.{Any-from_list_any}
use Rattle.rule_table.specs.Words.{is_some_and}
use Rattle.ground.specs.Faults.{fault_at}
use Rattle.ground.specs.declared.place.Place.{Place}
use Rattle.ground.specs.declared.fault.Fault.{Fault}
use Rattle.ground.specs.declared.fault.FaultKind.{FaultKind}
use Rattle.ground.specs.declared.fault.FaultKind.TheVariants.{DuplicateUnit, MainCount, MissingUnit, TypeClash, WrongCount, Recursion, CommonMismatch, InitialTwice, Limit}
use Rattle.f66_tree.specs.Syntax.{Text, Line, Routine}
use Rattle.f66_tree.specs.Units.{Context, is_main}
use Rattle.f66_tree.specs.Evaluation.{Intrinsic, Iabs, Mod, Isign, Idim, Max0, Min0}
use Rattle.f66_program.specs.Mentions.{context_of}
use Rattle.f66_program.specs.Calls.{Call, calls_in, is_called, unit_named, one_further, clashes, miscounts, Leads, Reaches, at_once, further}
use Rattle.f66_program.specs.Initial.{FillsTwice}
use Rattle.f66_program.specs.Linking.{Program, Part, IsLine, is_intrinsic, names_block, RepeatsName, of_unit, of_intrinsic, of_block, MiscountsMain, second, none, HasCall, LeadsTo, Mismatches, IsTooLarge, Breaks, IsWhole}
use Rattle.call_cycles.specs.declared.edge.Edge.{Edge}
use Rattle.call_cycles.specs.Cycles as cycles
use Rattle.call_cycles.specs.Cycles.{IsOnCycle, no_edge, edge_at, HasNoCycle}
use Rattle.efl_tree.specs.Syntax.{EflProcedure, EflProgram}
use Rattle.efl_types.specs.Whole.{first_taken, main_fault, mains, count_fault, edges_of, TellsWhole}
use Rattle.efl_typed.specs.Linking.{linkage_of}
use Rattle.efl_routes.specs.Expressions.{intrinsic_name}
use Rattle.efl_lowered.specs.Naming.{Naming}
use Rattle.efl_lowered.specs.Lowering.{calls, lines_of, unit_of, units_of}
use Rattle.efl_lowered.specs.Facts.{is_named, AreReady}
use Rattle.efl_lowered.specs.Names.{OfProcedure, OfIntrinsic, AreNames}
use Rattle.efl_lowered.proofs.Lists.{false_from, or_left, neither, same_text, text_is, and_some}
use Rattle.efl_lowered.proofs.UnitLemmas.{unit_at, at_unit, found_unit, main_header, called_header, unit_plain, no_presets}
use Rattle.efl_lowered.proofs.Apart.{unlike, procedure_no_intrinsic}
use Rattle.efl_plain.specs.Matched.{AreMatched}
use Rattle.efl_plain.proofs.Said.{NamesNone, no_blocks}
use Rattle.efl_plain.proofs.Leads.{IsLed, unit_led}

pub got_there : {X : Type 0} (xs : List X) (i : ℕ) (x : X) → slice_get xs i ≡ Some x → Contains xs x
got_there xs i x e = (i, slice_get_within xs i x e, get_or_from_slice_get xs i x x e)

none_named : {X : Type 0} (o : Option X) → is_none o ≡ true → o ≡ None
none_named None h = refl
none_named (Some x) h = absurd (true≢false (sym h))

some_named : {X : Type 0} (o : Option X) → not (is_none o) ≡ true → is_some o ≡ true
some_named None h = h
some_named (Some x) h = refl

named_some : {X : Type 0} (o : Option X) → is_some o ≡ true → not (is_none o) ≡ true
named_some None h = h
named_some (Some x) h = refl

-- a name that leads to a unit is its name
leads_called : (q : Text) (rs : List Routine) (n : ℕ) → unit_named q rs ≡ Some n → (r : Routine) × (slice_get rs n ≡ Some r) × (is_called q r.header ≡ true)
leads_called q [] n e = absurd (none-some n e)
leads_called q (s ∷ rs) n e = by_first (is_called q s.header) refl e (leads_called q rs)
  where
    behind : (o : Option ℕ) → unit_named q rs ≡ o → one_further o ≡ Some n → ((m : ℕ) → unit_named q rs ≡ Some m → (r : Routine) × (slice_get rs m ≡ Some r) × (is_called q r.header ≡ true)) → (r : Routine) × (slice_get (s ∷ rs) n ≡ Some r) × (is_called q r.header ≡ true)
    behind None is g later = absurd (none-some n g)
    behind (Some m) is g later = let w = later m is in (w.0, ap (slice_get (s ∷ rs)) (sym (same_Some (suc m) n g)) ∙ w.1, w.2)

    by_first : (b : Bool) → is_called q s.header ≡ b → unit_named q (s ∷ rs) ≡ Some n → ((m : ℕ) → unit_named q rs ≡ Some m → (r : Routine) × (slice_get rs m ≡ Some r) × (is_called q r.header ≡ true)) →
        (r : Routine) × (slice_get (s ∷ rs) n ≡ Some r) × (is_called q r.header ≡ true)
    by_first true i g later = (s, ap (slice_get (s ∷ rs)) (sym (same_Some zero n (sym (ap (λ b. if b then Some zero else (one_further (unit_named q rs))) i) ∙ g))), i)
    by_first false i g later = behind (unit_named q rs) refl (sym (ap (λ b. if b then Some zero else (one_further (unit_named q rs))) i) ∙ g) later

-- a name that is that of no intrinsic function
no_intrinsic : (x : Text) → ((g : Intrinsic) → bytes_eq (intrinsic_name g) x ≡ false) → is_intrinsic x ≡ false
no_intrinsic x h = neither _ _ (h Iabs) (neither _ _ (h Mod) (neither _ _ (h Isign) (neither _ _ (h Idim) (neither _ _ (h Max0) (neither _ _ (h Min0) refl)))))

-- ---- what is told of whole programs ----

pub counts_told : (p : EflProgram) → TellsWhole p None → (count_fault p ≡ None) × HasNoCycle (edges_of p)
counts_told p whole = by (count_fault p) refl
  where
    by : (o : Option Fault) → count_fault p ≡ o → (count_fault p ≡ None) × HasNoCycle (edges_of p)
    by None e = (e, rw e at whole)
    by (Some f) e = (let told : None ≡ Some f = (rw e at whole) in absurd (none-some f told))

first_none : {V : Type 0} (a b : Option V) → option_or a b ≡ None → b ≡ None
first_none None b h = h
first_none (Some v) b h = absurd (none-some v (sym h))

-- a program without a fault of its counts has a main
some_main : (end : Place) (us : List EflProcedure) → option_map (λ q. fault_at q MainCount) (main_fault end (mains us)) ≡ None → (i : ℕ) × (u : EflProcedure) × (slice_get us i ≡ Some u) × (is_none u.name ≡ true)
some_main end [] h = absurd (none-some (fault_at end MainCount) (sym h))
some_main end (u ∷ us) h = by_first (is_none u.name) refl (some_main end us)
  where
    by_first : (b : Bool) → is_none u.name ≡ b → (option_map (λ q. fault_at q MainCount) (main_fault end (mains us)) ≡ None → (i : ℕ) × (v : EflProcedure) × (slice_get us i ≡ Some v) × (is_none v.name ≡ true)) →
        (i : ℕ) × (v : EflProcedure) × (slice_get (u ∷ us) i ≡ Some v) × (is_none v.name ≡ true)
    by_first true e later = (0, u, refl, e)
    by_first false e later =
        let w = later (sym (ap (λ b. option_map (λ q. fault_at q MainCount) (main_fault end (cond b (u ∷ mains us) (mains us)))) e) ∙ h) in
        (suc w.0, w.1, w.2, w.3)

-- so an accepted program has one
pub main_there : (p : EflProgram) → TellsWhole p None → (i : ℕ) × (u : EflProcedure) × (slice_get p.procedures i ≡ Some u) × (is_none u.name ≡ true)
main_there p whole = some_main p.finish p.procedures (first_none (option_map (λ x. fault_at x DuplicateUnit) (first_taken [] p.procedures)) _ (counts_told p whole).0)

module _ (p : EflProgram) (none_on : HasNoCycle (edges_of p)) where
  -- a call of a procedure is an edge
  record IsEdge (n m : ℕ) : Type 0 where
    edge : Edge
    at : Contains (edges_of p) edge
    from : edge.from ≡ n
    to : edge.to ≡ m

  call_edge : (n m : ℕ) → calls p n m ≡ true → IsEdge n m
  call_edge n m h =
      let a = Any-from_list_any (λ e. nat_eq e.from n && nat_eq e.to m) (edges_of p) h in
      let ends = and_parts (nat_eq a.1.from n) (nat_eq a.1.to m) a.4 in
      record { edge = a.1; at = (a.0, a.2, a.3); from = eqb-true a.1.from n ends.0; to = eqb-true a.1.to m ends.1 }

  off_cycle : (e : Edge) → Contains (edges_of p) e → IsOnCycle (edges_of p) e → ⊥
  off_cycle e c = subst (λ d. ¬ IsOnCycle (edges_of p) d) (get_or_default (edges_of p) c.0 no_edge e c.1 ∙ c.2) (none_on c.0 c.1)

  no_way_back : (n m : ℕ) → calls p n m ≡ true → (m ≡ n) ⊎ cycles.Reaches (edges_of p) m n → ⊥
  no_way_back n m h (inl same) = let e = call_edge n m h in off_cycle e.edge e.at (inl (e.to ∙ same ∙ sym e.from))
  no_way_back n m h (inr way) =
      let e = call_edge n m h in
      off_cycle e.edge e.at (inr (subst (λ i. cycles.Reaches (edges_of p) i e.edge.from) (sym e.to) (subst (λ j. cycles.Reaches (edges_of p) m j) (sym e.from) way)))

  pub not_itself : (m : ℕ) → calls p m m ≡ false
  not_itself m = false_from (calls p m m) (λ h. no_way_back m m h (inl refl))

  step : {n m : ℕ} → calls p n m ≡ true → cycles.Reaches (edges_of p) n m
  step {n} {m} h =
      let e = call_edge n m h in
      subst (λ i. cycles.Reaches (edges_of p) i m) e.from (subst (λ j. cycles.Reaches (edges_of p) e.edge.from j) e.to (cycles.at_once e.edge e.at))

  step_on : {n m v : ℕ} → calls p n m ≡ true → cycles.Reaches (edges_of p) m v → cycles.Reaches (edges_of p) n v
  step_on {n} {m} {v} h way =
      let e = call_edge n m h in
      subst (λ i. cycles.Reaches (edges_of p) i v) e.from (cycles.further e.edge e.at (subst (λ j. cycles.Reaches (edges_of p) j v) (sym e.to) way))

module _ (p : EflProgram) (names : Naming) (apart : AreNames p names) (ready : AreReady p names) (whole : TellsWhole p None) where
  abbrev Rs : List Routine
  Rs = units_of names p

  abbrev pub made : Program
  made = record { units = units_of names p; finish = p.finish }

  no_cycle : HasNoCycle (edges_of p)
  no_cycle = (counts_told p whole).1

  -- ---- names ----

  record IsNamed (n : ℕ) (x : Text) : Type 0 where
    unit : EflProcedure
    here : slice_get p.procedures n ≡ Some unit
    named : is_named p n ≡ true
    is : x ≡ names.callee n

  named_is : (n : ℕ) (r : Routine) (x : Text) → slice_get Rs n ≡ Some r → is_called x r.header ≡ true → IsNamed n x
  named_is n r x e h =
      let w = at_unit p names n r e in
      let g = and_parts (not (is_none w.0.name)) (bytes_eq x (names.callee n)) (sym (called_header p names n w.0 x) ∙ ap (λ s. is_called x s.header) w.2 ∙ h) in
      record { unit = w.0; here = w.1; named = and_some (λ u. is_some u.name) (slice_get p.procedures n) w.0 w.1 (some_named w.0.name g.0); is = text_is x (names.callee n) g.1 }

  found : (m : ℕ) (w : EflProcedure) → slice_get p.procedures m ≡ Some w → is_named p m ≡ true → unit_named (names.callee m) Rs ≡ Some m
  found m w e h =
      found_unit (names.callee m) Rs m (unit_of names p m w) (unit_at p names m w e)
      (called_header p names m w (names.callee m) ∙ and_from (not (is_none w.name)) _ (named_some w.name (sym (ap (is_some_and (λ v. is_some v.name)) e) ∙ h)) (same_text (names.callee m)))
      (λ n s at is. let w1 = named_is n s (names.callee m) at is in apart.procedures n m w1.named h (sym w1.is))

  -- no statement names a block
  no_block : (q : Part) (l : IsLine made q) (b : Option Text) → names_block b l.line.act ≡ true → ⊥
  no_block q l b h =
      let w = at_unit p names q.unit l.unit l.here in
      let there : Contains (lines_of names p q.unit w.0) l.line = subst (λ r. Contains r.lines l.line) (sym w.2) (got_there l.unit.lines l.index l.line l.stands) in
      true≢false (sym h ∙ All-contains (λ s. NamesNone s.act) (lines_of names p q.unit w.0) l.line (no_blocks p names q.unit w.0 (unit_plain p names ready q.unit (ap is_some w.1))) there b)

  pub no_name_repeats : (q : Part) → ¬ RepeatsName made q
  no_name_repeats q (of_unit h name is v lt leads) =
      let a = named_is q.unit h.unit name h.here is in
      let w = leads_called name Rs v leads in
      let b = named_is v w.0 name w.1 w.2 in
      let same : v ≡ q.unit = apart.procedures v q.unit b.named a.named (sym b.is ∙ a.is) in
      omega (same, lt, arith)
  no_name_repeats q (of_intrinsic h name is intrinsic) =
      let a = named_is q.unit h.unit name h.here is in
      let own = or_left (is_named p q.unit && nat_eq q.unit q.unit) (calls p q.unit q.unit) (and_from (is_named p q.unit) (nat_eq q.unit q.unit) a.named (eq-eqb q.unit q.unit refl)) in
      true≢false (sym intrinsic ∙ ap is_intrinsic a.is ∙ no_intrinsic (names.callee q.unit) (λ g. unlike p names apart q.unit (ap is_some a.here) (OfIntrinsic g) (OfProcedure q.unit) refl own (λ e. procedure_no_intrinsic q.unit g (sym e))))
  no_name_repeats q (of_block l name v is leads) = no_block q l (Some name) is

  -- ---- mains ----

  main_is : (n : ℕ) (r : Routine) → slice_get Rs n ≡ Some r → is_main r.header ≡ true → n ≡ (linkage_of p).main
  main_is n r e h =
      let w = at_unit p names n r e in
      ready.one_main n w.0 w.1 (none_named w.0.name (sym (main_header p names n w.0) ∙ ap (λ s. is_main s.header) w.2 ∙ h))

  pub one_main : (q : Part) → ¬ MiscountsMain made q
  one_main q (second u v r s e f lt h k at) = let a = main_is u r e h in let b = main_is v s f k in omega (a, b, lt, arith)
  one_main q (none h at) =
      let m = main_there p whole in
      let r : Routine = unit_of names p m.0 m.1 in
      true≢false (sym (main_header p names m.0 m.1 ∙ m.3) ∙ h r (got_there Rs m.0 r (unit_at p names m.0 m.1 m.2)))

  -- ---- common blocks and DATA ----

  pub no_mismatch : (q : Part) → ¬ Mismatches made q
  no_mismatch q h = no_block q h.at (Some h.block) h.named

  pub none_twice : (q : Part) (i : ℕ) → ¬ FillsTwice Rs q.unit i
  none_twice q i h = none-some h.other (sym (ap (λ fs. slice_get fs h.second) (no_presets p names ready)) ∙ h.other_is)

  -- ---- calls ----

  module _ (matched : AreMatched p) where
    led : (n : ℕ) (r : Routine) → slice_get Rs n ≡ Some r → (line : Line) → Contains r.lines line → (k : Call) → Contains (calls_in (context_of r) line.act) k → IsLed p names n (context_of r) k
    led = unit_led p names apart ready matched (not_itself p no_cycle)

    leads_is : {n : ℕ} {c : Context} {k : Call} (l : IsLed p names n c k) → unit_named k.name Rs ≡ Some l.number
    leads_is l = ap (λ x. unit_named x Rs) l.is ∙ found l.number l.unit l.there l.named

    -- the call of a part
    part_led : (Holds : Context → Call → Type 0) (q : Part) (h : HasCall made q Holds) → IsLed p names q.unit (context_of h.at.unit) h.call
    part_led Holds q h = led q.unit h.at.unit h.at.here h.at.line (got_there h.at.unit.lines h.at.index h.at.line h.at.stands) h.call h.called

    -- the unit that it leads to
    same_unit : {n : ℕ} {c : Context} {k : Call} (l : IsLed p names n c k) (Holds : ℕ → Routine → Type 0) (t : LeadsTo made k Holds) → (t.number ≡ l.number) × (t.unit ≡ unit_of names p l.number l.unit)
    same_unit l Holds t =
        let same = same_Some t.number l.number (sym t.to ∙ leads_is l) in
        (same, same_Some t.unit (unit_of names p l.number l.unit) (sym t.here ∙ ap (slice_get Rs) same ∙ unit_at p names l.number l.unit l.there))

    pub none_missing : (q : Part) → ¬ HasCall made q (λ c k. unit_named k.name made.units ≡ None)
    none_missing q h = let l = part_led (λ c k. unit_named k.name made.units ≡ None) q h in none-some l.number (sym h.holds ∙ leads_is l)

    pub no_clash : (q : Part) → ¬ HasCall made q (λ c k. LeadsTo made k (λ v r. clashes c k r ≡ true))
    no_clash q h =
        let l = part_led (λ c k. LeadsTo made k (λ v r. clashes c k r ≡ true)) q h in
        let c = context_of h.at.unit in
        let s = same_unit l (λ v r. clashes c h.call r ≡ true) h.holds in
        true≢false (sym h.holds.holds ∙ ap (clashes c h.call) s.1 ∙ l.alike)

    pub no_miscount : (q : Part) → ¬ HasCall made q (λ c k. LeadsTo made k (λ v r. miscounts k r ≡ true))
    no_miscount q h =
        let l = part_led (λ c k. LeadsTo made k (λ v r. miscounts k r ≡ true)) q h in
        let s = same_unit l (λ v r. miscounts h.call r ≡ true) h.holds in
        true≢false (sym h.holds.holds ∙ ap (miscounts h.call) s.1 ∙ l.many)

    -- each call of the units is one of the program
    called_there : {u v : ℕ} → Leads Rs u v → calls p u v ≡ true
    called_there {u} {v} a =
        let l = led u a.unit a.here a.line a.stands a.call a.called in
        subst (λ m. calls p u m ≡ true) (same_Some l.number v (sym (leads_is l) ∙ a.to)) l.called

    reached_there : {u v : ℕ} → Reaches Rs u v → cycles.Reaches (edges_of p) u v
    reached_there (at_once a) = step p no_cycle (called_there a)
    reached_there (further a h) = step_on p no_cycle (called_there a) (reached_there h)

    pub no_recursion : (q : Part) → ¬ HasCall made q (λ c k. LeadsTo made k (λ v r. (v ≡ q.unit) ⊎ Reaches made.units v q.unit))
    no_recursion q h =
        let l = part_led (λ c k. LeadsTo made k (λ v r. (v ≡ q.unit) ⊎ Reaches made.units v q.unit)) q h in
        let s = same_unit l (λ v r. (v ≡ q.unit) ⊎ Reaches made.units v q.unit) h.holds in
        let called : calls p q.unit h.holds.number ≡ true = subst (λ m. calls p q.unit m ≡ true) (sym s.0) l.called in
        back h.holds.number called h.holds.holds
      where
        back : (v : ℕ) → calls p q.unit v ≡ true → (v ≡ q.unit) ⊎ Reaches Rs v q.unit → ⊥
        back v called (inl same) = no_way_back p no_cycle q.unit v called (inl same)
        back v called (inr way) = no_way_back p no_cycle q.unit v called (inr (reached_there way))

    -- ---- all rules ----

    module _ (small : (q : Part) → ¬ IsTooLarge made q) where
      none_broken : (k : FaultKind) (q : Part) → ¬ Breaks k made q
      none_broken DuplicateUnit q = no_name_repeats q
      none_broken MainCount q = one_main q
      none_broken MissingUnit q = none_missing q
      none_broken TypeClash q = no_clash q
      none_broken WrongCount q = no_miscount q
      none_broken Recursion q = no_recursion q
      none_broken CommonMismatch q = no_mismatch q
      none_broken InitialTwice q = λ h. none_twice q h.0 h.2
      none_broken Limit q = small q
      none_broken _ q = λ h. h

      -- the units are a whole program, where their storage is not too large
      pub units_whole : IsWhole made
      units_whole = record { clean = none_broken }
