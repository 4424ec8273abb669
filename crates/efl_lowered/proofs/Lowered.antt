-- A program over scalars with its units is a lowered one.
use Rattle.std.proofs.Common.{◌≡◌, ℕ, ◌<◌, Bool, true, false, true≢false, List, [], ◌∷◌, length, Option, None, Some, refl, sym, ap, ◌∙◌, subst, arith, if◌then◌else◌, ◌&&◌, not}
use Rattle.std.specs.Prelude.{nat_eq, nat_le, is_none, is_some}
use Rattle.std.specs.List.{slice_get}
use Rattle.std.specs.Str.{bytes_eq}
use Rattle.std.specs.Bool.{Decides}
use Rattle.std.proofs.lemmas.Bool.{and_parts, and_from, eqb-true, eq-eqb, le-leb}
use Rattle.std.proofs.lemmas.Bool.Decides.{same_from_decides, Decides-eqb, Decides-like}
use Rattle.std.proofs.lemmas.Slice.Eq.{bytes_eq-Decides}
use Rattle.std.proofs.lemmas.Option.{same_Some}
use Rattle.rule_table.specs.Words.{is_some_and}
use Rattle.ground.specs.declared.value.Kind.{Kind}
use Rattle.ground.specs.declared.value.Kind.TheVariants.{Integer, Logical}
use Rattle.f66_tree.specs.Syntax.{Text, Routine}
use Rattle.f66_tree.specs.Units.{is_main, position, dummies_of, sizes_of, kind_of, Linkage}
use Rattle.f66_tree.specs.Evaluation.{Intrinsic, Iabs, Mod, Isign, Idim, Max0, Min0, AFunction, AnIntrinsic, known, intrinsics, array_or, sort_of}
use Rattle.f66_tree.specs.World.{Record}
use Rattle.f66_tree.specs.Execution.{f66}
use Rattle.f66_tree.specs.Agreement.{Agrees}
use Rattle.f66_program.specs.Calls.{is_called}
use Rattle.f66_program.specs.Linking.{IsLinkage}
use Rattle.efl_tree.specs.Syntax.{EflProcedure, EflProgram}
use Rattle.efl_scope.specs.Marks.{program_variables}
use Rattle.efl_typed.specs.Typing.{body_if, bodies_of}
use Rattle.efl_typed.specs.Linking.{linkage_of, efl_meaning}
use Rattle.efl_typed.specs.Laws.{IsAccepted}
use Rattle.efl_typed.proofs.Each.{Each}
use Rattle.efl_typed.proofs.Accepted.{accepted_is_scoped}
use Rattle.routes.specs.Units.{Units}
use Rattle.efl_routes.specs.Expressions.{intrinsic_name}
use Rattle.efl_routes.specs.Statements.{AllReady}
use Rattle.efl_routes.specs.LoweredProgram.{LoweredProgram, Begins, size}
use Rattle.efl_routes.proofs.Agrees.{scoped_agrees}
use Rattle.efl_lowered.specs.Naming.{Naming}
use Rattle.efl_lowered.specs.Lowering.{calls, header_of, routes_of, unit_of}
use Rattle.efl_lowered.specs.Facts.{is_unit, is_named, gives_kind, has_value, is_function, formals, uses_function, uses_procedure, has_scalar, has_variable, IsOverScalars, AreReady}
use Rattle.efl_lowered.specs.Names.{Name, OfVariable, OfTemporary, OfProcedure, OfIntrinsic, text_of, has_name, AreNames}
use Rattle.efl_lowered.proofs.Lists.{false_from, or_left, or_right, text_is, same_text, some_and, and_some, some_of, no_position}
use Rattle.efl_lowered.proofs.UnitLemmas.{Rs, unit_at, at_unit, many_units, main_header, called_header, unit_sizes, unit_plain, found_unit}
use Rattle.efl_lowered.proofs.Apart.{is_typed, is_kind, same_kind, unlike, unit_kind, procedure_no_intrinsic}
use Rattle.efl_lowered.proofs.Seats.{is_seated, seated_named, seated_free}
use Rattle.efl_lowered.proofs.Cells as cells
use Rattle.efl_lowered.proofs.Cells.{empty_first, result_is, is_place, seat_of_value, cell, cell_of_value, empty_cells}
use Rattle.efl_lowered.proofs.Above as above
use Rattle.efl_lowered.proofs.Above.{room_of, within_room, seated_temporary, is_above}
use Rattle.efl_lowered.proofs.Bases.{context_is, variable_base}

same_size : {X : Type 0} (xs : List X) → length xs ≡ size xs
same_size [] = refl
same_size (x ∷ xs) = let e = same_size xs in omega (e, arith)

not_known : (es : List (Text × Intrinsic)) (x : Text) → Each (λ e. bytes_eq e.0 x ≡ false) es → known es x ≡ AFunction
not_known [] x h = refl
not_known (e ∷ es) x h = ap (λ b. if b then (AnIntrinsic e.1) else (known es x)) h.0 ∙ not_known es x h.1

intrinsic_is : (g : Intrinsic) → known intrinsics (intrinsic_name g) ≡ AnIntrinsic g
intrinsic_is Iabs = refl
intrinsic_is Mod = refl
intrinsic_is Isign = refl
intrinsic_is Idim = refl
intrinsic_is Max0 = refl
intrinsic_is Min0 = refl

none_named : {X : Type 0} (o : Option X) → is_none o ≡ true → o ≡ None
none_named None h = refl
none_named (Some x) h = absurd (true≢false (sym h))

some_named : {X : Type 0} (o : Option X) → not (is_none o) ≡ true → is_some o ≡ true
some_named None h = h
some_named (Some x) h = refl

module _ (p : EflProgram) (ranks : List ℕ) (accepted : IsAccepted p ranks) (over : IsOverScalars p) (names : Naming) (are : AreNames p names) (labels : (n : ℕ) (q m : Text) → is_unit p n ≡ true → names.label n q ≡ names.label n m → q ≡ m) (ready : AreReady p names) (l : Linkage) (linked : IsLinkage (Rs p names) l) where
  -- ---- procedures ----

  the_unit : (n : ℕ) → is_unit p n ≡ true → (u : EflProcedure) × (slice_get p.procedures n ≡ Some u)
  the_unit n is = some_of (slice_get p.procedures n) is

  named_unit : (n : ℕ) → is_named p n ≡ true → is_unit p n ≡ true
  named_unit n is = let w = some_and (λ u. is_some u.name) (slice_get p.procedures n) is in ap is_some w.1

  function_named : (n : ℕ) → is_function p n ≡ true → is_named p n ≡ true
  function_named n is = (and_parts (is_named p n) (has_value p n) is).0

  -- the main
  main_unit : (u : EflProcedure) × (slice_get p.procedures (linkage_of p).main ≡ Some u) × (u.name ≡ None) × (l.main ≡ (linkage_of p).main)
  main_unit =
      let r = linked.main in
      let w = at_unit p names l.main r.0 r.1 in
      let none : w.0.name ≡ None = none_named w.0.name (sym (main_header p names l.main w.0) ∙ ap (λ s. is_main s.header) w.2 ∙ r.2) in
      let same : l.main ≡ (linkage_of p).main = ready.one_main l.main w.0 w.1 none in
      (w.0, ap (slice_get p.procedures) (sym same) ∙ w.1, none, same)

  main_is : (n : ℕ) (u : EflProcedure) → slice_get p.procedures n ≡ Some u → is_none u.name ≡ nat_eq n (linkage_of p).main
  main_is n u e = by_name (is_none u.name) refl
    where
      by_name : (b : Bool) → is_none u.name ≡ b → is_none u.name ≡ nat_eq n (linkage_of p).main
      by_name true t = t ∙ sym (eq-eqb n (linkage_of p).main (ready.one_main n u e (none_named u.name t)))
      by_name false t = t ∙ sym (false_from (nat_eq n (linkage_of p).main) (λ h.
          let m = main_unit in
          let same : u ≡ m.0 = same_Some u m.0 (sym e ∙ ap (slice_get p.procedures) (eqb-true n (linkage_of p).main h) ∙ m.1) in
          true≢false (sym (ap is_none (ap (λ w. w.name) same ∙ m.2)) ∙ t)))

  main_plain : is_function p (linkage_of p).main ≡ false
  main_plain = let m = main_unit in ap (λ b. b && has_value p (linkage_of p).main) (ap (is_some_and (λ u. is_some u.name)) m.1 ∙ ap is_some m.2)

  -- ---- what names mean ----

  sizes_are : (n : ℕ) → is_unit p n ≡ true → (q : Text) → sizes_of q (l.context n).notes ≡ []
  sizes_are n is q = let w = the_unit n is in ap (λ c. sizes_of q c.notes) (context_is p names over are ready l linked n w.0 w.1) ∙ unit_sizes p names n w.0 (unit_plain p names ready n is) q

  kind_is : (n : ℕ) → is_unit p n ≡ true → (k : Kind) (a : Name) → has_name p names n a ≡ true → is_typed p names n k a ≡ true → kind_of (l.context n) (text_of names a) ≡ k
  kind_is n is k a h t = let w = the_unit n is in ap (λ c. kind_of c (text_of names a)) (context_is p names over are ready l linked n w.0 w.1) ∙ unit_kind p names are ready n w.0 w.1 k a h t

  no_dummy_is : (n : ℕ) → is_unit p n ≡ true → (a : Name) → is_seated p names n a ≡ true → position (text_of names a) (dummies_of (l.context n).header) ≡ None
  no_dummy_is n is a h =
      let w = the_unit n is in
      ap (λ c. position (text_of names a) (dummies_of c.header)) (context_is p names over are ready l linked n w.0 w.1)
      ∙ no_position (text_of names a) (dummies_of (header_of names (program_variables p) n w.0)) (seated_free p names are ready n w.0 w.1 a h)

  -- ---- calls ----

  has_called : (n m : ℕ) → calls p n m ≡ true → has_name p names n (OfProcedure m) ≡ true
  has_called n m h = or_right (is_named p n && nat_eq m n) (calls p n m) h

  sort_is : (n m : ℕ) → is_unit p n ≡ true → calls p n m ≡ true → sort_of (l.context n) (names.callee m) ≡ AFunction
  sort_is n m is h =
      ap (λ ns. array_or ns (names.callee m)) (sizes_are n is (names.callee m)) ∙ not_known intrinsics (names.callee m) (unlike_it Iabs, (unlike_it Mod, (unlike_it Isign, (unlike_it Idim, (unlike_it Max0, (unlike_it Min0, tt))))))
    where
      unlike_it : (g : Intrinsic) → bytes_eq (intrinsic_name g) (names.callee m) ≡ false
      unlike_it g = unlike p names are n is (OfIntrinsic g) (OfProcedure m) refl (has_called n m h) (λ e. procedure_no_intrinsic m g (sym e))

  found_is : (m : ℕ) → is_named p m ≡ true → l.find (names.callee m) ≡ Some m
  found_is m is =
      let w = some_and (λ u. is_some u.name) (slice_get p.procedures m) is in
      linked.finds (names.callee m)
      ∙ found_unit (names.callee m) (Rs p names) m (unit_of names p m w.0) (unit_at p names m w.0 w.1) (called_header p names m w.0 (names.callee m) ∙ and_from (not (is_none w.0.name)) _ (by_some w.0.name w.2) (same_text (names.callee m))) alone
    where
      by_some : (o : Option Text) → is_some o ≡ true → not (is_none o) ≡ true
      by_some None h = h
      by_some (Some x) h = refl

      alone : (n : ℕ) (s : Routine) → slice_get (Rs p names) n ≡ Some s → is_called (names.callee m) s.header ≡ true → n ≡ m
      alone n s e h =
          let w = at_unit p names n s e in
          let g = and_parts (not (is_none w.0.name)) (bytes_eq (names.callee m) (names.callee n)) (sym (called_header p names n w.0 (names.callee m)) ∙ ap (λ r. is_called (names.callee m) r.header) w.2 ∙ h) in
          are.procedures n m (and_some (λ u. is_some u.name) (slice_get p.procedures n) w.0 w.1 (some_named w.0.name g.0)) is (sym (text_is (names.callee m) (names.callee n) g.1))

  -- ---- values of functions ----

  value_cell : (n : ℕ) → l.number n (names.callee n) 0 ≡ cell p names l ((linkage_of p).result n)
  value_cell n = sym (ap (cell p names l) (result_is p over n) ∙ cell_of_value p names l n)

  value_seated : (n : ℕ) → is_function p n ≡ true → is_seated p names n (OfProcedure n) ≡ true
  value_seated n is = and_from (nat_eq n n) (is_function p n) (eq-eqb n n refl) is

  value_place : (n : ℕ) → is_function p n ≡ true → is_place p names ((linkage_of p).result n) ≡ true
  value_place n is =
      ap (is_place p names) (result_is p over n)
      ∙ ap (λ (s : ℕ × Name). is_unit p s.0 && is_seated p names s.0 s.1) (seat_of_value p names n)
      ∙ and_from (is_unit p n) (is_seated p names n (OfProcedure n)) (named_unit n (function_named n is)) (value_seated n is)

  -- ---- what a procedure uses, where it is one ----

  abbrev has : ℕ → ℕ → Kind → Bool
  has n v k = is_unit p n && has_scalar p n v k

  abbrev uses : ℕ → ℕ → Kind → ℕ → Bool
  uses n m k c = is_unit p n && uses_function p n m k c

  abbrev invokes : ℕ → ℕ → ℕ → Bool
  invokes n m c = is_unit p n && uses_procedure p n m c

  record Uses (n m : ℕ) (k : Kind) (c : ℕ) : Type 0 where
    unit : is_unit p n ≡ true
    called : calls p n m ≡ true
    named : is_named p m ≡ true
    kind : gives_kind p m k ≡ true
    function : is_function p m ≡ true
    many : c ≡ size (formals p m)

  record Invokes (n m c : ℕ) : Type 0 where
    unit : is_unit p n ≡ true
    called : calls p n m ≡ true
    named : is_named p m ≡ true
    plain : is_function p m ≡ false
    many : c ≡ size (formals p m)

  value_of_kind : (m : ℕ) (k : Kind) → gives_kind p m k ≡ true → has_value p m ≡ true
  value_of_kind m Integer h = or_left (gives_kind p m Integer) (gives_kind p m Logical) h
  value_of_kind m Logical h = or_right (gives_kind p m Integer) (gives_kind p m Logical) h

  uses_of : (n m : ℕ) (k : Kind) (c : ℕ) → uses n m k c ≡ true → Uses n m k c
  uses_of n m k c h =
      let a = and_parts (is_unit p n) (uses_function p n m k c) h in
      let b = and_parts (calls p n m) (is_named p m && (gives_kind p m k && nat_eq c (length (formals p m)))) a.1 in
      let d = and_parts (is_named p m) (gives_kind p m k && nat_eq c (length (formals p m))) b.1 in
      let f = and_parts (gives_kind p m k) (nat_eq c (length (formals p m))) d.1 in
      record { unit = a.0; called = b.0; named = d.0; kind = f.0; function = and_from (is_named p m) (has_value p m) d.0 (value_of_kind m k f.0); many = eqb-true c (length (formals p m)) f.1 ∙ same_size (formals p m) }

  not_is : (b : Bool) → not b ≡ true → b ≡ false
  not_is true h = absurd (true≢false (sym h))
  not_is false h = refl

  invokes_of : (n m c : ℕ) → invokes n m c ≡ true → Invokes n m c
  invokes_of n m c h =
      let a = and_parts (is_unit p n) (uses_procedure p n m c) h in
      let b = and_parts (calls p n m) (is_named p m && (not (has_value p m) && nat_eq c (length (formals p m)))) a.1 in
      let d = and_parts (is_named p m) (not (has_value p m) && nat_eq c (length (formals p m))) b.1 in
      let f = and_parts (not (has_value p m)) (nat_eq c (length (formals p m))) d.1 in
      record { unit = a.0; called = b.0; named = d.0; plain = ap (λ t. t && has_value p m) d.0 ∙ not_is (has_value p m) f.0; many = eqb-true c (length (formals p m)) f.1 ∙ same_size (formals p m) }

  -- each body is one that can be lowered, and there is none under another number
  abbrev ReadyIf : Bool → ℕ → Type 0
  ReadyIf b n =
      AllReady (λ v k. (b && has_scalar p n v k) ≡ true) (λ m k c. (b && uses_function p n m k c) ≡ true) (λ m c. (b && uses_procedure p n m c) ≡ true) (if b then names.room n else 0) (is_function p n ≡ true) (bodies_of p n) 0

  body_ready : (n : ℕ) → ReadyIf (is_unit p n) n
  body_ready n = by_unit (slice_get p.procedures n) refl
    where
      by_unit : (o : Option EflProcedure) → slice_get p.procedures n ≡ o → ReadyIf (is_unit p n) n
      by_unit (Some u) e = subst (λ b. ReadyIf b n) (sym (ap is_some e)) (ready.bodies n (ap is_some e))
      by_unit None e =
          subst (λ o. AllReady (λ v k. (is_unit p n && has_scalar p n v k) ≡ true) (λ m k c. (is_unit p n && uses_function p n m k c) ≡ true) (λ m c. (is_unit p n && uses_procedure p n m c) ≡ true) (room_of p names n) (is_function p n ≡ true) (body_if p n o) 0) (sym e) tt

  label_same : (n : ℕ) → is_unit p n ≡ true → (m q : Text) → nat_eq (names.label n m) (names.label n q) ≡ bytes_eq m q
  label_same n is m q =
      let units : Decides (nat_eq (names.label n m) (names.label n q)) (m ≡ q) = Decides-like (nat_eq (names.label n m) (names.label n q)) (λ e. labels n m q is e) (λ e. ap (names.label n) e) (Decides-eqb (names.label n m) (names.label n q)) in
      same_from_decides (nat_eq (names.label n m) (names.label n q)) (bytes_eq m q) units (bytes_eq-Decides m q)

  temporary_typed : (n : ℕ) (k : Kind) (i : ℕ) → i < names.room n → is_typed p names n k (OfTemporary k i) ≡ true
  temporary_typed n k i lt = and_from (is_kind k k) (nat_le i (names.room n)) (same_kind k) (le-leb i (names.room n) (omega (lt, arith)))

  variable_has : (n v : ℕ) (k : Kind) → has_scalar p n v k ≡ true → has_variable p n v ≡ true
  variable_has n v Integer h = or_left (has_scalar p n v Integer) (has_scalar p n v Logical) h
  variable_has n v Logical h = or_right (has_scalar p n v Integer) (has_scalar p n v Logical) h

  abbrev lowered : LoweredProgram
  lowered = record {
    source = linkage_of p;
    target = l;
    bodies = bodies_of p;
    code = routes_of names p;
    unit_of = λ n. n;
    is_function = is_function p;
    home = λ n. names.home;
    temp = λ n. names.temp;
    callee = names.callee;
    label = names.label;
    own = names.callee;
    gives = is_function p;
    room = room_of p names;
    has_scalar = has;
    uses_function = uses;
    uses_procedure = invokes;
    is_unit = is_unit p;
    cell = cell p names l;
    is_place = is_place p names;
    is_above = is_above p ranks names l;
    lowered = λ n. refl;
    ready = body_ready;
    same_label = label_same;
    one_cell = cells.one_cell p names l are ready linked;
    temp_own = λ n k i lt. let w = within_room p names n i lt in no_dummy_is n w.0 (OfTemporary k i) (seated_temporary p names n k i w.1);
    temp_kind = λ n k i lt. let w = within_room p names n i lt in kind_is n w.0 k (OfTemporary k i) (seated_named p names n (OfTemporary k i) (seated_temporary p names n k i w.1)) (temporary_typed n k i w.1);
    temp_plain = λ n k i lt. sizes_are n (within_room p names n i lt).0 (names.temp k i);
    temp_apart = above.temp_apart p ranks names l are ready linked;
    temp_no_cell = above.temp_no_cell p ranks names l are ready linked;
    above_temp = above.above_temp p ranks names l are ready linked;
    above_cell = above.above_cell p ranks names l are ready linked;
    home_kind = λ n v k h. let g = and_parts (is_unit p n) (has_scalar p n v k) h in kind_is n g.0 k (OfVariable v) (variable_has n v k g.1) g.1;
    bases = λ n v k h ps qs alike many.
        let g = and_parts (is_unit p n) (has_scalar p n v k) h in
        let w = the_unit n g.0 in
        variable_base p names over are ready l linked n w.0 w.1 v k g.1 ps qs (is_function p n) alike many;
    main = λ n is. let w = the_unit n is in ap (λ c. is_main c.header) (context_is p names over are ready l linked n w.0 w.1) ∙ main_header p names n w.0 ∙ main_is n w.0 w.1;
    own_based = λ n is. no_dummy_is n (named_unit n (function_named n is)) (OfProcedure n) (value_seated n is);
    own_cell = λ n is. value_cell n;
    own_real = value_place;
    intrinsics = λ n is g. ap (λ ns. array_or ns (intrinsic_name g)) (sizes_are n is (intrinsic_name g)) ∙ intrinsic_is g;
    functions = λ n m k c h. let f = uses_of n m k c h in sort_is n m f.unit f.called;
    kinds = λ n m k c h. let f = uses_of n m k c h in kind_is n f.unit k (OfProcedure m) (has_called n m f.called) (and_from (gives_kind p m k) (calls p n m) f.kind f.called);
    found = λ n m k c h. found_is m (uses_of n m k c h).named;
    found_too = λ n m c h. found_is m (invokes_of n m c h).named;
    results = λ n m k c h. value_cell m;
    reals = λ n m k c h. value_place m (uses_of n m k c h).function;
    arity = λ n m k c h. let f = uses_of n m k c h in (f.many, f.function);
    arity_too = λ n m c h. let f = invokes_of n m c h in (f.many, f.plain);
    enters = λ n m k c h. named_unit m (uses_of n m k c h).named;
    enters_too = λ n m c h. named_unit m (invokes_of n m c h).named;
    above = λ n m k c h. above.above_called p ranks names l accepted.falls n m (uses_of n m k c h).called;
    above_own = λ n m k c h. above.own_above p ranks names l accepted.falls n m (uses_of n m k c h).called;
    above_too = λ n m c h. above.above_called p ranks names l accepted.falls n m (invokes_of n m c h).called;
    above_own_too = λ n m c h. above.own_above p ranks names l accepted.falls n m (invokes_of n m c h).called;
  }

  begins : Begins lowered
  begins = record {
    unit = ap is_some main_unit.1;
    main = main_unit.3;
    deep = linked.deep ∙ many_units p names;
    formals = ready.no_formals;
    plain = main_plain;
    first = λ q is. empty_cells p names l are ready linked (cell p names l q) ∙ sym (empty_first p over q);
  }

  -- so it agrees with its units, where they are those of its routes
  pub program_agrees : (c : Units) → l ≡ c.linked → routes_of names p ≡ c.bodies → (input : List Record) → Agrees (λ b. efl_meaning p b input) (λ n. f66 c.linked c.codes input n)
  program_agrees c is is1 input = scoped_agrees lowered begins c is is1 (accepted_is_scoped p ranks accepted) input
