-- Each call of a unit is of a unit of its kind, with as many actuals as that has dummies, each of the type of its dummy.
use Rattle.std.proofs.Common.{◌≡◌, ℕ, ◌+◌, ◌≤◌, Bool, true, false, true≢false, List, [], ◌∷◌, ◌++◌, map, length, Option, None, Some, refl, sym, ap, ◌∙◌, subst, arith, if◌then◌else◌, ◌||◌, ◌&&◌, not}
use Rattle.std.specs.Prelude.{pos, nat_eq, nat_le, is_none, is_some}
use Rattle.std.specs.List.{slice_get}
use Rattle.std.specs.Str.{bytes_eq}
use Rattle.std.proofs.lemmas.Bool.{and_parts, and_from, eqb-true, eq-eqb, le-leb}
use Rattle.std.proofs.lemmas.List.{length-map}
use Rattle.std.proofs.lemmas.List.Folds.{list_any-append}
use Rattle.rule_table.specs.Words.{is_some_and}
use Rattle.ground.specs.declared.value.Kind.{Kind}
use Rattle.ground.specs.declared.value.Kind.TheVariants.{Integer, Logical}
use Rattle.f66_tree.specs.declared.declaration.TypeWord.TheVariants as words
use Rattle.f66_tree.specs.Syntax as f66
use Rattle.f66_tree.specs.Syntax.{Text, Formula, Formulas, NoFormula, AndFormula, MainUnit}
use Rattle.f66_tree.specs.Units.{Context, Note, dummies_of, kind_of, kind_by, by_letter, by_header}
use Rattle.f66_tree.specs.Evaluation.{Intrinsic, Sort, AnArray, AnIntrinsic, AFunction, known, intrinsics, array_or, sort_of, is_array}
use Rattle.f66_program.specs.Mentions.{context_of}
use Rattle.f66_program.specs.Calls.{Call, kind_in, Shape, AScalar, shape_alone, shape_of, takes_shape, agrees, agree_all, many, fits_header, clashes, miscounts}
use Rattle.f66_program.specs.Calls as f66_calls
use Rattle.efl_tree.specs.Syntax.{EflProcedure, EflProgram}
use Rattle.efl_scope.specs.Marks.{program_variables}
use Rattle.efl_types.specs.Signatures.{Result, Nothing, Gives, Unknown, result_of}
use Rattle.efl_program.specs.Typed.{Expr, Exprs, NoExpr, AndExpr, Site}
use Rattle.efl_program.specs.Typed as efl
use Rattle.efl_program.specs.Places as places
use Rattle.efl_typed.specs.Linking.{formals_in}
use Rattle.efl_routes.specs.Expressions.{type_of, made, made_for, count, variable_of, or_one, formula, actuals, ScalarSite, Scalars, AllScalars}
use Rattle.efl_routes.specs.Expressions as routes
use Rattle.efl_routes.proofs.Calls.{scalar_site}
use Rattle.efl_lowered.specs.Naming.{Naming}
use Rattle.efl_lowered.specs.Lowering.{word_of, dummies, or_spare, named_header, header_of, stands_in, variables_in, is_result, gives, calls, functions_in, temps_of, unit_of}
use Rattle.efl_lowered.specs.Facts.{is_unit, is_named, gives_kind, has_value, formals, uses_function, uses_procedure, has_scalar, has_variable, AreReady}
use Rattle.efl_lowered.specs.Names.{Name, OfVariable, OfTemporary, OfProcedure, text_of, has_name, AreNames}
use Rattle.efl_lowered.proofs.Lists.{or_left, or_right, neither, same_text, and_some, not_among, not_among_range}
use Rattle.efl_lowered.proofs.UnitLemmas.{has_typed, unit_type, unit_sizes, unit_plain}
use Rattle.efl_lowered.proofs.Apart.{is_typed, is_kind, unlike, unit_kind, same_procedure, variable_no_procedure, temporary_no_procedure}
use Rattle.efl_lowered.proofs.Apart as apart_lemmas
use Rattle.efl_lowered.proofs.Seats.{formals_are}
use Rattle.efl_plain.specs.Matched.{AreOfTypes}
use Rattle.efl_plain.proofs.Actuals.{by_actual, many_actuals}

-- ---- kinds and shapes ----

same_kinds : (i j k : Kind) → i ≡ k → j ≡ k → f66_calls.same_kind i j ≡ true
same_kinds i j k h g = ap (λ x. f66_calls.same_kind x j) h ∙ ap (f66_calls.same_kind k) g ∙ itself k
  where
    itself : (x : Kind) → f66_calls.same_kind x x ≡ true
    itself Integer = refl
    itself Logical = refl

pub no_array : (es : List (Text × Intrinsic)) (x : Text) → is_array (known es x) ≡ false
no_array [] x = refl
no_array (e ∷ es) x = either (bytes_eq e.0 x) (no_array es x)
  where
    either : (b : Bool) → is_array (known es x) ≡ false → is_array (if b then (AnIntrinsic e.1) else (known es x)) ≡ false
    either true h = refl
    either false h = h

alone_scalar : (s : Sort) → is_array s ≡ false → shape_alone s ≡ AScalar
alone_scalar (AnArray ns) h = absurd (true≢false h)
alone_scalar (AnIntrinsic g) h = refl
alone_scalar AFunction h = refl

takes : (t : Bool) (s : Shape) → t ≡ false → s ≡ AScalar → takes_shape t s ≡ true
takes t s h k = ap (λ b. takes_shape b s) h ∙ ap (takes_shape false) k

agree_none : (c b : Context) (fs : Formulas) → agree_all c fs b [] ≡ true
agree_none c b NoFormula = refl
agree_none c b (AndFormula f fs) = refl

no_clash : (c : Context) (k : Call) (r : f66.Routine) → fits_header c k (context_of r) ≡ true → agree_all c k.actuals (context_of r) (dummies_of r.header) ≡ true → clashes c k r ≡ false
no_clash c k r h g = neither (not (fits_header c k (context_of r))) _ (ap not h) (ap not g)

no_miscount : (k : Call) (r : f66.Routine) → many k.actuals ≡ length (dummies_of r.header) → miscounts k r ≡ false
no_miscount k r h = ap not (eq-eqb (many k.actuals) (length (dummies_of r.header)) h)

many_spared : (fs : Formulas) (x : Text) (ds : List Text) → many fs ≡ length ds → many (or_one fs) ≡ length (or_spare x ds)
many_spared NoFormula x [] h = refl
many_spared NoFormula x (d ∷ ds) h = absurd (omega (h, arith))
many_spared (AndFormula f fs) x [] h = absurd (omega (h, arith))
many_spared (AndFormula f fs) x (d ∷ ds) h = h

-- ---- headers ----

gives_is : (i j : Kind) → is_result j (Gives i) ≡ true → i ≡ j
gives_is Integer Integer h = refl
gives_is Logical Logical h = refl
gives_is Integer Logical h = absurd (true≢false (sym h))
gives_is Logical Integer h = absurd (true≢false (sym h))

word_kind : (k : Kind) → kind_by (word_of k) ≡ k
word_kind Integer = refl
word_kind Logical = refl

module _ (names : Naming) (m : ℕ) where
  abbrev Head : Bool → Result → List Text → f66.Header
  Head b r ds = if b then MainUnit else (named_header names m r ds)

  abbrev own : Text
  own = names.callee m

  abbrev spare : Text
  spare = names.temp Integer (names.room m)

  -- a function's
  function_dummies : (b : Bool) (r : Result) (ds : List Text) (k : Kind) → b ≡ false → is_result k r ≡ true → dummies_of (Head b r ds) ≡ or_spare spare ds
  function_dummies true r ds k e h = absurd (true≢false e)
  function_dummies false (Gives i) ds k e h = refl
  function_dummies false Nothing ds Integer e h = absurd (true≢false (sym h))
  function_dummies false Nothing ds Logical e h = absurd (true≢false (sym h))
  function_dummies false Unknown ds Integer e h = absurd (true≢false (sym h))
  function_dummies false Unknown ds Logical e h = absurd (true≢false (sym h))

  function_word : (b : Bool) (r : Result) (ds : List Text) (k : Kind) → b ≡ false → is_result k r ≡ true → kind_by (by_header own (Head b r ds)) ≡ k
  function_word true r ds k e h = absurd (true≢false e)
  function_word false (Gives i) ds k e h = ap (λ t. kind_by (if t then (word_of i) else (by_letter own))) (same_text own) ∙ word_kind i ∙ gives_is i k h
  function_word false Nothing ds Integer e h = absurd (true≢false (sym h))
  function_word false Nothing ds Logical e h = absurd (true≢false (sym h))
  function_word false Unknown ds Integer e h = absurd (true≢false (sym h))
  function_word false Unknown ds Logical e h = absurd (true≢false (sym h))

  function_fits : (c : Context) (fs : Formulas) (ns : List Note) (b : Bool) (r : Result) (ds : List Text) (k : Kind) → b ≡ false → is_result k r ≡ true → kind_of c own ≡ k → kind_of (record { header = Head b r ds; notes = ns }) own ≡ k →
      fits_header c (record { by_call = false; name = own; actuals = fs }) (record { header = Head b r ds; notes = ns }) ≡ true
  function_fits c fs ns true r ds k e h here there = absurd (true≢false e)
  function_fits c fs ns false (Gives i) ds k e h here there = same_kinds (kind_of c own) (kind_of (record { header = Head false (Gives i) ds; notes = ns }) own) k here there
  function_fits c fs ns false Nothing ds Integer e h here there = absurd (true≢false (sym h))
  function_fits c fs ns false Nothing ds Logical e h here there = absurd (true≢false (sym h))
  function_fits c fs ns false Unknown ds Integer e h here there = absurd (true≢false (sym h))
  function_fits c fs ns false Unknown ds Logical e h here there = absurd (true≢false (sym h))

  -- and that of another procedure
  abbrev NoValue : Result → Type 0
  NoValue r = (is_result Integer r || is_result Logical r) ≡ false

  procedure_dummies : (b : Bool) (r : Result) (ds : List Text) → b ≡ false → NoValue r → dummies_of (Head b r ds) ≡ ds
  procedure_dummies true r ds e h = absurd (true≢false e)
  procedure_dummies false (Gives Integer) ds e h = absurd (true≢false h)
  procedure_dummies false (Gives Logical) ds e h = absurd (true≢false h)
  procedure_dummies false Nothing ds e h = refl
  procedure_dummies false Unknown ds e h = refl

  procedure_fits : (c : Context) (fs : Formulas) (ns : List Note) (b : Bool) (r : Result) (ds : List Text) → b ≡ false → NoValue r → fits_header c (record { by_call = true; name = own; actuals = fs }) (record { header = Head b r ds; notes = ns }) ≡ true
  procedure_fits c fs ns true r ds e h = absurd (true≢false e)
  procedure_fits c fs ns false (Gives Integer) ds e h = absurd (true≢false h)
  procedure_fits c fs ns false (Gives Logical) ds e h = absurd (true≢false h)
  procedure_fits c fs ns false Nothing ds e h = refl
  procedure_fits c fs ns false Unknown ds e h = refl

some_name : (o : Option Text) → is_some o ≡ true → is_none o ≡ false
some_name None h = absurd (true≢false (sym h))
some_name (Some x) h = refl

-- ---- what a procedure has and calls ----

module _ (p : EflProgram) (n : ℕ) where
  scalar_variable : (v : ℕ) (k : Kind) → has_scalar p n v k ≡ true → has_variable p n v ≡ true
  scalar_variable v Integer h = or_left (has_scalar p n v Integer) (has_scalar p n v Logical) h
  scalar_variable v Logical h = or_right (has_scalar p n v Integer) (has_scalar p n v Logical) h

  pub record IsUse (m : ℕ) (many : ℕ) : Type 0 where
    pub called : calls p n m ≡ true
    pub named : is_named p m ≡ true
    pub counts : many ≡ length (formals p m)

  pub function_use : (m : ℕ) (k : Kind) (c : ℕ) → uses_function p n m k c ≡ true → IsUse m c × (gives_kind p m k ≡ true)
  function_use m k c h =
      let a = and_parts (calls p n m) _ h in
      let b = and_parts (is_named p m) _ a.1 in
      let d = and_parts (gives_kind p m k) (nat_eq c (length (formals p m))) b.1 in
      (record { called = a.0; named = b.0; counts = eqb-true c (length (formals p m)) d.1 }, d.0)

  not_is : (b : Bool) → not b ≡ true → b ≡ false
  not_is true h = absurd (true≢false (sym h))
  not_is false h = refl

  pub procedure_use : (m c : ℕ) → uses_procedure p n m c ≡ true → IsUse m c × (has_value p m ≡ false)
  procedure_use m c h =
      let a = and_parts (calls p n m) _ h in
      let b = and_parts (is_named p m) _ a.1 in
      let d = and_parts (not (has_value p m)) (nat_eq c (length (formals p m))) b.1 in
      (record { called = a.0; named = b.0; counts = eqb-true c (length (formals p m)) d.1 }, not_is (has_value p m) d.0)

module _ (p : EflProgram) (names : Naming) (apart : AreNames p names) (ready : AreReady p names) where
  -- ---- names of one unit ----

  module _ (n : ℕ) (u : EflProcedure) (here : slice_get p.procedures n ≡ Some u) where
    abbrev pub in_unit : Context
    in_unit = context_of (unit_of names p n u)

    is : is_unit p n ≡ true
    is = ap is_some here

    variable_kind : (v : ℕ) (k : Kind) → has_scalar p n v k ≡ true → kind_of in_unit (names.home v) ≡ k
    variable_kind v k h = unit_kind p names apart ready n u here k (OfVariable v) (scalar_variable p n v k h) h

    temporary_kind : (k : Kind) (i : ℕ) → i ≤ names.room n → kind_of in_unit (names.temp k i) ≡ k
    temporary_kind k i le =
        let b = le-leb i (names.room n) le in
        unit_kind p names apart ready n u here k (OfTemporary k i) b (and_from (is_kind k k) (nat_le i (names.room n)) (apart_lemmas.same_kind k) b)

    called_kind : (m : ℕ) (k : Kind) → calls p n m ≡ true → gives_kind p m k ≡ true → kind_of in_unit (names.callee m) ≡ k
    called_kind m k h g = unit_kind p names apart ready n u here k (OfProcedure m) (or_right (is_named p n && nat_eq m n) (calls p n m) h) (and_from (gives_kind p m k) (calls p n m) g h)

    pub sorts : (x : Text) → sort_of in_unit x ≡ known intrinsics x
    sorts x = ap (λ ns. array_or ns x) (unit_sizes p names n u (unit_plain p names ready n is) x)

    no_arrays : (x : Text) → is_array (sort_of in_unit x) ≡ false
    no_arrays x = ap is_array (sorts x) ∙ no_array intrinsics x

    -- no type statement has a procedure's own name where it does not call itself
    own_untyped : is_named p n ≡ true → calls p n n ≡ false → (k : Kind) → has_typed p names n k (names.callee n) ≡ false
    own_untyped named other k =
        list_any-append (bytes_eq q) (map names.home (variables_in (program_variables p) n k) ++ temps_of names n k) (map names.callee (functions_in p n k))
        ∙ neither _ _
        (list_any-append (bytes_eq q) (map names.home (variables_in (program_variables p) n k)) (temps_of names n k)
        ∙ neither _ _ (not_among names.home (λ x. stands_in n k x.1) q 0 (program_variables p) (λ i x e t. differs (OfVariable (0 + i)) (has_home i (and_some (stands_in n k) (slice_get (program_variables p) i) x e t)) (λ same. variable_no_procedure (0 + i) n (sym same))))
        (not_among_range (names.temp k) q 0 (names.room n + 1) (λ i lt. differs (OfTemporary k i) (le-leb i (names.room n) (omega (lt, arith))) (λ same. temporary_no_procedure k i n (sym same)))))
        (not_among names.callee (λ x. gives k x.1 && calls p n x.0) q 0 p.procedures (λ i w e t.
        let c = (and_parts (gives k w) (calls p n (0 + i)) t).1 in
        differs (OfProcedure (0 + i)) (or_right (is_named p n && nat_eq (0 + i) n) (calls p n (0 + i)) c) (λ same. true≢false (sym c ∙ ap (calls p n) (sym (same_procedure n (0 + i) same)) ∙ other))))
      where
        q : Text
        q = names.callee n

        has_home : (i : ℕ) → has_scalar p n i k ≡ true → has_name p names n (OfVariable (0 + i)) ≡ true
        has_home i h = let z : i ≡ 0 + i = omega arith in subst (λ v. has_variable p n v ≡ true) z (scalar_variable p n i k h)

        differs : (b : Name) → has_name p names n b ≡ true → (OfProcedure n ≡ b → ⊥) → bytes_eq (names.callee n) (text_of names b) ≡ false
        differs b h ne = unlike p names apart n is (OfProcedure n) b (or_left (is_named p n && nat_eq n n) (calls p n n) (and_from (is_named p n) (nat_eq n n) named (eq-eqb n n refl))) h ne

    own_kind : is_named p n ≡ true → calls p n n ≡ false → (k : Kind) → is_none u.name ≡ false → is_result k (result_of u.result) ≡ true → kind_of in_unit (names.callee n) ≡ k
    own_kind named other k some h =
        let last = by_header (names.callee n) (header_of names (program_variables p) n u) in
        ap kind_by (unit_type p names n u (unit_plain p names ready n is) (names.callee n) last)
        ∙ ap (λ b. kind_by (if b then words.Integer else (if (has_typed p names n Logical (names.callee n)) then words.Logical else last))) (own_untyped named other Integer)
        ∙ ap (λ b. kind_by (if b then words.Logical else last)) (own_untyped named other Logical)
        ∙ function_word names n (is_none u.name) (result_of u.result) (dummies names (program_variables p) n u) k some h

    -- ---- actuals ----

    formula_kind : (e : Expr) (i : ℕ) → i + made e ≤ names.room n → kind_in in_unit (formula names.home names.temp names.callee e i) ≡ type_of e
    formula_kind (efl.Int z) i le = refl
    formula_kind (efl.Truth b) i le = refl
    formula_kind (efl.At x) i le = temporary_kind (places.kind_of (places.sort_of x)) i (omega (le, arith))
    formula_kind (efl.Call v k es) i le = temporary_kind k (i + made_for es) (omega (le, arith))
    formula_kind (efl.Known g es) i le = temporary_kind Integer (i + routes.made_in es) (omega (le, arith))
    formula_kind (efl.Group a) i le = formula_kind a i le
    formula_kind (efl.Plus a) i le = temporary_kind Integer (i + made a) (omega (le, arith))
    formula_kind (efl.Minus a) i le = temporary_kind Integer (i + made a) (omega (le, arith))
    formula_kind (efl.Not a) i le = temporary_kind Logical (i + made a) (omega (le, arith))
    formula_kind (efl.Up x) i le = temporary_kind Integer (i + 1) (omega (le, arith))
    formula_kind (efl.Down x) i le = temporary_kind Integer (i + 1) (omega (le, arith))
    formula_kind (efl.Pair op a b) i le = temporary_kind (routes.kind_by op) (i + made a + made b) (omega (le, arith))
    formula_kind (efl.Assign None x e) i le = formula_kind e i le
    formula_kind (efl.Assign (Some op) x e) i le = temporary_kind (routes.kind_by op) (i + 1 + made e) (omega (le, arith))

    site_kind : (x : Site) → ScalarSite (λ v k. has_scalar p n v k ≡ true) x → kind_of in_unit (names.home (variable_of x)) ≡ places.kind_of (places.sort_of x)
    site_kind x h = scalar_site (λ v k. has_scalar p n v k ≡ true) (λ y. kind_of in_unit (names.home (variable_of y)) ≡ places.kind_of (places.sort_of y)) x h variable_kind

  -- ---- a call from one unit to another ----

  module _ (n : ℕ) (u : EflProcedure) (here : slice_get p.procedures n ≡ Some u) (m : ℕ) (w : EflProcedure) (there : slice_get p.procedures m ≡ Some w) where
    abbrev c : Context
    c = in_unit n u here

    abbrev b : Context
    b = in_unit m w there

    abbrev head : f66.Header
    head = header_of names (program_variables p) m w

    abbrev ds : List Text
    ds = dummies names (program_variables p) m w

    abbrev given : Exprs → ℕ → Formulas
    given es i = actuals names.home names.temp names.callee es i

    agrees_if : (e : Formula) (d : Text) (k : Kind) → kind_in c e ≡ k → kind_of b d ≡ k → shape_of c e ≡ AScalar → agrees c e b d ≡ true
    agrees_if e d k h g s = and_from (f66_calls.same_kind (kind_in c e) (kind_of b d)) _ (same_kinds (kind_in c e) (kind_of b d) k h g) (takes (is_array (sort_of b d)) (shape_of c e) (no_arrays m w there d) s)

    abbrev Has : ℕ → Kind → Type 0
    Has v k = has_scalar p n v k ≡ true

    abbrev Uses : ℕ → Kind → ℕ → Type 0
    Uses v k d = uses_function p n v k d ≡ true

    agree_each : (es : Exprs) (vs : List ℕ) (i : ℕ) → AllScalars Has Uses es → i + made_for es ≤ names.room n → AreOfTypes p m es vs → agree_all c (given es i) b (map names.home vs) ≡ true
    agree_each es [] i h le t = agree_none c b (given es i)
    agree_each NoExpr (v ∷ vs) i h le t = refl
    agree_each (AndExpr e es) (v ∷ vs) i h le t =
        by_actual names.home names.temp names.callee
        (λ d. Scalars Has Uses d → (has_scalar p m v (type_of d) ≡ true) → i + made_for (AndExpr d es) ≤ names.room n → agree_all c (given (AndExpr d es) i) b (names.home v ∷ map names.home vs) ≡ true)
        (λ x s k le1.
        let at : Text = names.home (variable_of x) in
        and_from (agrees c (f66.Ref at) b (names.home v)) _
        (agrees_if (f66.Ref at) (names.home v) (places.kind_of (places.sort_of x)) (site_kind n u here x s) (variable_kind m w there v (places.kind_of (places.sort_of x)) k) (alone_scalar (sort_of c at) (no_arrays n u here at)))
        (agree_each es vs i h.1 le1 t.1))
        (λ d no s k le1.
        let all : i + (made d + made_for es) ≤ names.room n = subst (λ x. i + x ≤ names.room n) (no.makes es) le1 in
        let it : Formula = f66.Group (formula names.home names.temp names.callee d i) in
        subst (λ fs. agree_all c fs b (names.home v ∷ map names.home vs) ≡ true) (sym (no.passes es i))
        (and_from (agrees c it b (names.home v)) _ (agrees_if it (names.home v) (type_of d) (formula_kind n u here d i (omega (all, arith))) (variable_kind m w there v (type_of d) k) refl)
        (agree_each es vs (i + made d) h.1 (omega (all, arith)) t.1))) e h.0 t.0 le

    agree_spared : (fs : Formulas) (xs : List Text) → many fs ≡ length xs → agree_all c fs b xs ≡ true → agree_all c (or_one fs) b (or_spare (spare names m) xs) ≡ true
    agree_spared NoFormula [] e h = and_from (agrees c (f66.Int (pos 0)) b (spare names m)) true (agrees_if (f66.Int (pos 0)) (spare names m) Integer refl (temporary_kind m w there Integer (names.room m) (omega arith)) refl) refl
    agree_spared NoFormula (x ∷ xs) e h = absurd (omega (e, arith))
    agree_spared (AndFormula f fs) [] e h = absurd (omega (e, arith))
    agree_spared (AndFormula f fs) (x ∷ xs) e h = h

    -- so many actuals as dummies, which agree
    module _ (es : Exprs) (i : ℕ) (used : IsUse p n m (count es)) (h : AllScalars Has Uses es) (le : i + made_for es ≤ names.room n) (t : AreOfTypes p m es (formals p m)) where
      some : is_none w.name ≡ false
      some = some_name w.name (sym (ap (is_some_and (λ v. is_some v.name)) there) ∙ used.named)

      as_many : many (given es i) ≡ length ds
      as_many =
          many_actuals names.home names.temp names.callee es i ∙ used.counts ∙ ap length (formals_are p names m w there)
          ∙ sym (length-map (formals_in (program_variables p) m w) names.home)

      agreed : agree_all c (given es i) b ds ≡ true
      agreed = ap (λ vs. agree_all c (given es i) b (map names.home vs)) (sym (formals_are p names m w there)) ∙ agree_each es (formals p m) i h le t

      abbrev reference : Call
      reference = record { by_call = false; name = names.callee m; actuals = or_one (given es i) }

      abbrev statement : Call
      statement = record { by_call = true; name = names.callee m; actuals = given es i }

      abbrev Agrees : Call → Type 0
      Agrees k = (clashes c k (unit_of names p m w) ≡ false) × (miscounts k (unit_of names p m w) ≡ false)

      pub function_agrees : (k : Kind) → gives_kind p m k ≡ true → calls p m m ≡ false → Agrees reference
      function_agrees k g other =
          let r : is_result k (result_of w.result) ≡ true = sym (ap (is_some_and (gives k)) there) ∙ g in
          let has : dummies_of head ≡ or_spare (spare names m) ds = function_dummies names m (is_none w.name) (result_of w.result) ds k some r in (
            no_clash c reference (unit_of names p m w)
                (function_fits names m c (or_one (given es i)) b.notes (is_none w.name) (result_of w.result) ds k some r (called_kind n u here m k used.called g) (own_kind m w there used.named other k some r))
                (ap (agree_all c (or_one (given es i)) b) has ∙ agree_spared (given es i) ds as_many agreed),
            no_miscount reference (unit_of names p m w) (many_spared (given es i) (spare names m) ds as_many ∙ ap length (sym has)),
          )

      pub procedure_agrees : has_value p m ≡ false → Agrees statement
      procedure_agrees g =
          let r : (is_result Integer (result_of w.result) || is_result Logical (result_of w.result)) ≡ false = sym (ap (λ o. is_some_and (gives Integer) o || is_some_and (gives Logical) o) there) ∙ g in
          let has : dummies_of head ≡ ds = procedure_dummies names m (is_none w.name) (result_of w.result) ds some r in (
            no_clash c statement (unit_of names p m w) (procedure_fits names m c (given es i) b.notes (is_none w.name) (result_of w.result) ds some r) (ap (agree_all c (given es i) b) has ∙ agreed),
            no_miscount statement (unit_of names p m w) (as_many ∙ ap length (sym has)),
          )
