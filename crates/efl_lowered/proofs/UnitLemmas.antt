-- The units of a program: where each stands, its header, and what its lines say.
use Rattle.std.proofs.Common.{◌≡◌, ℕ, zero, suc, ◌+◌, ◌≤◌, Bool, true, false, List, [], ◌∷◌, ◌++◌, map, length, Option, None, Some, refl, sym, ap, ◌∙◌, arith, append_assoc, if◌then◌else◌, ◌||◌, ◌&&◌, not}
use Rattle.std.specs.Prelude.{is_none, is_some, ⊤}
use Rattle.std.specs.List.{list_any, enumerate_from, slice_get}
use Rattle.std.specs.Option.{option_map}
use Rattle.std.specs.Str.{bytes_eq}
use Rattle.std.proofs.lemmas.List.{length-map}
use Rattle.std.proofs.lemmas.List.FromFn.{length-enumerate_from}
use Rattle.std.proofs.lemmas.List.Folds.{list_any-append}
use Rattle.std.proofs.lemmas.Option.{none-some, same_Some}
use Rattle.ground.specs.declared.place.Place.{Place}
use Rattle.ground.specs.declared.value.Kind.{Kind}
use Rattle.ground.specs.declared.value.Kind.TheVariants.{Integer, Logical}
use Rattle.f66_tree.specs.declared.declaration.TypeWord.{TypeWord}
use Rattle.f66_tree.specs.declared.declaration.TypeWord.TheVariants as words
use Rattle.f66_tree.specs.Syntax.{Text, Header, MainUnit, Line, Routine}
use Rattle.f66_tree.specs.Units.{Context, Note, is_main, dummies_of, notes_of, sizes_of, type_in}
use Rattle.f66_tree.specs.Evaluation.{Intrinsic}
use Rattle.f66_program.specs.Calls.{is_called, unit_named, one_further}
use Rattle.f66_program.specs.Mentions.{context_of, mentioned, is_function, declares}
use Rattle.f66_program.specs.Association.{not_filled, line_ties, unit_ties, ties_from, ties_of}
use Rattle.f66_program.specs.Initial.{line_presets, presets_from, presets_of}
use Rattle.efl_tree.specs.Syntax.{EflProcedure, EflProgram}
use Rattle.efl_scope.specs.Marks.{Located, program_variables}
use Rattle.efl_types.specs.Signatures.{Result, Nothing, Gives, Unknown, result_of}
use Rattle.efl_typed.specs.Typing.{bodies_of}
use Rattle.efl_typed.specs.Linking.{formals_in}
use Rattle.routes.specs.Routes.{Routes}
use Rattle.routes.specs.Code.{all_code}
use Rattle.routes.specs.Units.{ending}
use Rattle.routes.specs.Numbered.{AllPlain}
use Rattle.routes.specs.PlacedUnit.{all_formats}
use Rattle.routes.proofs.Placing.{unit_notes}
use Rattle.efl_routes.specs.Expressions.{intrinsic_name}
use Rattle.efl_lowered.specs.Naming.{Naming}
use Rattle.efl_lowered.specs.Lowering.{or_spare, named_header, header_of, dummies, typed_names, typed_of, word_of, routes_of, lines_of, unit_of, units_of}
use Rattle.efl_lowered.specs.Facts.{is_unit, is_function as gives_value, uses_function, uses_procedure, has_scalar, AreReady}
use Rattle.efl_lowered.proofs.Acts.{AllQuiet, plain_all, quiet_lines, all_quiet}
use Rattle.efl_lowered.proofs.Declared.{typed_declares, typed_type, typed_notes, typed_sizes, typed_mentions, typed_ties, typed_fills}
use Rattle.efl_lowered.proofs.Ties.{ties_all, fills_all, all_formats_type, all_formats_sizes}
use Rattle.efl_lowered.proofs.Lists.{false_from, or_left, or_right, neither, mapped_some, numbered_at}

-- ---- units by their numbers ----

-- a unit that is called by a name, and is alone in that, is what the name leads to
pub found_unit : (q : Text) (rs : List Routine) (n : ℕ) (r : Routine) → slice_get rs n ≡ Some r → is_called q r.header ≡ true → ((m : ℕ) (s : Routine) → slice_get rs m ≡ Some s → is_called q s.header ≡ true → m ≡ n) → unit_named q rs ≡ Some n
found_unit q [] n r e h alone = absurd (none-some r e)
found_unit q (s ∷ rs) zero r e h alone = ap (λ b. if b then Some zero else one_further (unit_named q rs)) (ap (λ t. is_called q t.header) (same_Some s r e) ∙ h)
found_unit q (s ∷ rs) (suc n) r e h alone =
    let last : is_called q s.header ≡ false = false_from (is_called q s.header) (λ g. let z = alone zero s refl g in omega (z, arith)) in
    ap (λ b. if b then Some zero else one_further (unit_named q rs)) last ∙ ap one_further (found_unit q rs n r e h (λ m t k g. let z = alone (suc m) t k g in omega (z, arith)))

-- a name leads to a unit that is there
pub leads_there : (q : Text) (rs : List Routine) (n : ℕ) → unit_named q rs ≡ Some n → (r : Routine) × (slice_get rs n ≡ Some r)
leads_there q [] n e = absurd (none-some n e)
leads_there q (s ∷ rs) n e = by_first (is_called q s.header) refl (leads_there q rs)
  where
    further : (o : Option ℕ) → unit_named q rs ≡ o → one_further o ≡ Some n → ((m : ℕ) → unit_named q rs ≡ Some m → (r : Routine) × (slice_get rs m ≡ Some r)) → (r : Routine) × (slice_get (s ∷ rs) n ≡ Some r)
    further None is g later = absurd (none-some n g)
    further (Some m) is g later = let w = later m is in (w.0, ap (slice_get (s ∷ rs)) (sym (same_Some (suc m) n g)) ∙ w.1)

    by_first : (b : Bool) → is_called q s.header ≡ b → ((m : ℕ) → unit_named q rs ≡ Some m → (r : Routine) × (slice_get rs m ≡ Some r)) → (r : Routine) × (slice_get (s ∷ rs) n ≡ Some r)
    by_first true i later = (s, ap (slice_get (s ∷ rs)) (sym (same_Some zero n (sym (ap (λ b. if b then Some zero else one_further (unit_named q rs)) i) ∙ e))))
    by_first false i later = further (unit_named q rs) refl (sym (ap (λ b. if b then Some zero else one_further (unit_named q rs)) i) ∙ e) later

no_ties_from : (u : ℕ) (rs : List Routine) → ((i v : ℕ) (r : Routine) → slice_get rs i ≡ Some r → unit_ties v r ≡ []) → ties_from u rs ≡ []
no_ties_from u [] h = refl
no_ties_from u (r ∷ rs) h = ap (λ ts. ts ++ ties_from (suc u) rs) (h 0 u r refl) ∙ no_ties_from (suc u) rs (λ i. h (suc i))

no_presets_from : (u : ℕ) (rs : List Routine) → ((i v : ℕ) (r : Routine) → slice_get rs i ≡ Some r → line_presets v 0 (context_of r) r.lines ≡ []) → presets_from u rs ≡ []
no_presets_from u [] h = refl
no_presets_from u (r ∷ rs) h = ap (λ ts. ts ++ presets_from (suc u) rs) (h 0 u r refl) ∙ no_presets_from (suc u) rs (λ i. h (suc i))

-- ---- headers ----

module _ (names : Naming) (n : ℕ) where
  abbrev Head : Bool → Result → List Text → Header
  Head b r ds = if b then MainUnit else (named_header names n r ds)

  main_by : (b : Bool) (r : Result) (ds : List Text) → is_main (Head b r ds) ≡ b
  main_by true r ds = refl
  main_by false (Gives k) ds = refl
  main_by false Nothing ds = refl
  main_by false Unknown ds = refl

  called_by : (q : Text) (b : Bool) (r : Result) (ds : List Text) → is_called q (Head b r ds) ≡ (not b && bytes_eq q (names.callee n))
  called_by q true r ds = refl
  called_by q false (Gives k) ds = refl
  called_by q false Nothing ds = refl
  called_by q false Unknown ds = refl

  spared : (q x : Text) (ds : List Text) → list_any (bytes_eq q) ds ≡ false → bytes_eq q x ≡ false → list_any (bytes_eq q) (or_spare x ds) ≡ false
  spared q x [] h k = neither (bytes_eq q x) false k refl
  spared q x (d ∷ ds) h k = h

  no_dummy_by : (q : Text) (b : Bool) (r : Result) (ds : List Text) → list_any (bytes_eq q) ds ≡ false → bytes_eq q (names.temp Integer (names.room n)) ≡ false → list_any (bytes_eq q) (dummies_of (Head b r ds)) ≡ false
  no_dummy_by q true r ds h k = refl
  no_dummy_by q false (Gives j) ds h k = spared q (names.temp Integer (names.room n)) ds h k
  no_dummy_by q false Nothing ds h k = h
  no_dummy_by q false Unknown ds h k = h

-- the end of a unit says nothing
module _ (b : Bool) (last : Place) where
  end_notes : notes_of (ending b last) ≡ []
  end_notes = by_main b
    where
      by_main : (m : Bool) → notes_of (ending m last) ≡ []
      by_main true = refl
      by_main false = refl

  end_ties : (u : ℕ) (c : Context) → line_ties u c not_filled (ending b last) ≡ []
  end_ties u c = by_main b
    where
      by_main : (m : Bool) → line_ties u c not_filled (ending m last) ≡ []
      by_main true = refl
      by_main false = refl

  end_fills : (u i : ℕ) (c : Context) → line_presets u i c (ending b last) ≡ []
  end_fills u i c = by_main b
    where
      by_main : (m : Bool) → line_presets u i c (ending m last) ≡ []
      by_main true = refl
      by_main false = refl

  end_quiet : (q : Text) (c : Context) → mentioned (is_function q) c (ending b last) ≡ false
  end_quiet q c = by_main b
    where
      by_main : (m : Bool) → mentioned (is_function q) c (ending m last) ≡ false
      by_main true = refl
      by_main false = refl

module _ (p : EflProgram) (names : Naming) where
  abbrev Vs : List Located
  Vs = program_variables p

  abbrev pub Rs : List Routine
  Rs = units_of names p

  numbered_unit : (n : ℕ) → slice_get Rs n ≡ option_map (λ u. unit_of names p n u) (slice_get p.procedures n)
  numbered_unit n =
      let e : 0 + n ≡ n = omega arith in
      numbered_at (λ x. unit_of names p x.0 x.1) 0 p.procedures n ∙ ap (λ m. option_map (λ u. unit_of names p m u) (slice_get p.procedures n)) e

  pub unit_at : (n : ℕ) (u : EflProcedure) → slice_get p.procedures n ≡ Some u → slice_get Rs n ≡ Some (unit_of names p n u)
  unit_at n u e = numbered_unit n ∙ ap (λ o. option_map (λ w. unit_of names p n w) o) e

  pub at_unit : (n : ℕ) (r : Routine) → slice_get Rs n ≡ Some r → (u : EflProcedure) × (slice_get p.procedures n ≡ Some u) × (unit_of names p n u ≡ r)
  at_unit n r e = mapped_some (λ u. unit_of names p n u) (slice_get p.procedures n) r (sym (numbered_unit n) ∙ e)

  pub many_units : length Rs ≡ length p.procedures
  many_units = length-map (enumerate_from 0 p.procedures) (λ x. unit_of names p x.0 x.1) ∙ length-enumerate_from 0 p.procedures

  abbrev pub has_typed : ℕ → Kind → Text → Bool
  has_typed n k q = list_any (bytes_eq q) (typed_names names p n k)

  module _ (n : ℕ) (u : EflProcedure) where
    pub main_header : is_main (header_of names Vs n u) ≡ is_none u.name
    main_header = main_by names n (is_none u.name) (result_of u.result) (dummies names Vs n u)

    pub called_header : (q : Text) → is_called q (header_of names Vs n u) ≡ (not (is_none u.name) && bytes_eq q (names.callee n))
    called_header q = called_by names n q (is_none u.name) (result_of u.result) (dummies names Vs n u)

    pub no_dummy : (q : Text) → list_any (bytes_eq q) (map names.home (formals_in Vs n u)) ≡ false → bytes_eq q (names.temp Integer (names.room n)) ≡ false → list_any (bytes_eq q) (dummies_of (header_of names Vs n u)) ≡ false
    no_dummy q h k = no_dummy_by names n q (is_none u.name) (result_of u.result) (dummies names Vs n u) h k

    -- ---- lines ----

    abbrev rs : Routes
    rs = routes_of names p n

    abbrev next : List Line
    next = ending (is_none u.name) u.finish

    abbrev code : List Line
    code = all_code (names.made n) rs 0 [] next

    abbrev most : Kind → ℕ
    most k = length (typed_names names p n k)

    abbrev types : Kind → List Line
    types k = typed_of names p n k u.place

    lines_are : lines_of names p n u ≡ types Integer ++ (types Logical ++ code)
    lines_are = append_assoc (types Integer) (types Logical) code

    within : (k : Kind) → length (typed_names names p n k) ≤ most k
    within k = omega arith

    pub unit_declares : (k : Kind) (q : Text) → has_typed n k q ≡ true → list_any (λ s. declares q s.act) (lines_of names p n u) ≡ true
    unit_declares k q h =
        ap (list_any (λ s. declares q s.act)) lines_are ∙ list_any-append (λ s. declares q s.act) (types Integer) (types Logical ++ code) ∙ by_kind k h
      where
        tells : (j : Kind) → list_any (λ s. declares q s.act) (types j) ≡ has_typed n j q
        tells j = typed_declares u.place (word_of j) q (most j) (typed_names names p n j) (within j)

        by_kind : (j : Kind) → has_typed n j q ≡ true →
            (list_any (λ s. declares q s.act) (types Integer) || list_any (λ s. declares q s.act) (types Logical ++ code)) ≡ true
        by_kind Integer g = or_left _ _ (tells Integer ∙ g)
        by_kind Logical g = or_right _ _ (list_any-append (λ s. declares q s.act) (types Logical) code ∙ or_left _ _ (tells Logical ∙ g))

    module _ (plain : AllPlain rs) where
      abbrev behind : List Note
      behind = all_formats (names.made n) rs 0 (notes_of next)

      all_notes : notes_of (lines_of names p n u) ≡ notes_of (types Integer) ++ (notes_of (types Logical) ++ behind)
      all_notes =
          ap notes_of lines_are
          ∙ typed_notes u.place (word_of Integer) (most Integer) (typed_names names p n Integer) (types Logical ++ code)
          ∙ ap (λ ns. notes_of (types Integer) ++ ns)
          (typed_notes u.place (word_of Logical) (most Logical) (typed_names names p n Logical) code ∙ ap (λ ns. notes_of (types Logical) ++ ns) (unit_notes (names.made n) rs [] next plain tt))

      pub unit_type : (q : Text) (last : TypeWord) → type_in q (notes_of (lines_of names p n u)) last ≡ (if (has_typed n Integer q) then words.Integer else (if (has_typed n Logical q) then words.Logical else last))
      unit_type q last =
          ap (λ ns. type_in q ns last) all_notes
          ∙ typed_type u.place (word_of Integer) q (most Integer) (typed_names names p n Integer) (notes_of (types Logical) ++ behind) last (within Integer)
          ∙ ap (λ t. if (has_typed n Integer q) then words.Integer else t)
          (typed_type u.place (word_of Logical) q (most Logical) (typed_names names p n Logical) behind last (within Logical)
          ∙ ap (λ t. if (has_typed n Logical q) then words.Logical else t) (all_formats_type (names.made n) q rs 0 (notes_of next) last ∙ ap (λ ns. type_in q ns last) (end_notes (is_none u.name) u.finish)))

      -- no name is that of an array
      pub unit_sizes : (q : Text) → sizes_of q (notes_of (lines_of names p n u)) ≡ []
      unit_sizes q =
          ap (sizes_of q) all_notes
          ∙ typed_sizes u.place (word_of Integer) q (most Integer) (typed_names names p n Integer) (notes_of (types Logical) ++ behind)
          ∙ typed_sizes u.place (word_of Logical) q (most Logical) (typed_names names p n Logical) behind
          ∙ all_formats_sizes (names.made n) q rs 0 (notes_of next) ∙ ap (sizes_of q) (end_notes (is_none u.name) u.finish)

      pub no_unit_ties : (v : ℕ) → unit_ties v (unit_of names p n u) ≡ []
      no_unit_ties v =
          let c = context_of (unit_of names p n u) in
          ap (line_ties v c not_filled) lines_are
          ∙ typed_ties u.place (word_of Integer) v c not_filled (most Integer) (typed_names names p n Integer) (types Logical ++ code)
          ∙ typed_ties u.place (word_of Logical) v c not_filled (most Logical) (typed_names names p n Logical) code
          ∙ ties_all (names.made n) v c not_filled rs 0 [] next plain ∙ end_ties (is_none u.name) u.finish v c

      pub no_unit_presets : (v : ℕ) → line_presets v 0 (context_of (unit_of names p n u)) (lines_of names p n u) ≡ []
      no_unit_presets v =
          let c = context_of (unit_of names p n u) in
          ap (line_presets v 0 c) lines_are
          ∙ typed_fills u.place (word_of Integer) v 0 c (most Integer) (typed_names names p n Integer) (types Logical ++ code)
          (λ i. typed_fills u.place (word_of Logical) v i c (most Logical) (typed_names names p n Logical) code (λ j. fills_all (names.made n) v c rs 0 [] next plain (λ m. end_fills (is_none u.name) u.finish v m c) j))

    -- no function of this name is called
    pub unit_quiet : (q : Text) → AllQuiet ⊤ q (context_of (unit_of names p n u)) rs → mentioned (is_function q) (context_of (unit_of names p n u)) (lines_of names p n u) ≡ false
    unit_quiet q quiet =
        let c = context_of (unit_of names p n u) in
        ap (mentioned (is_function q) c) lines_are
        ∙ typed_mentions u.place (word_of Integer) (is_function q) c (most Integer) (typed_names names p n Integer) (types Logical ++ code)
        ∙ typed_mentions u.place (word_of Logical) (is_function q) c (most Logical) (typed_names names p n Logical) code
        ∙ quiet_lines ⊤ q c (names.made n) tt rs 0 [] next quiet ∙ end_quiet (is_none u.name) u.finish q c

  module _ (ready : AreReady p names) where
    -- each act of a unit is a plain one
    pub unit_plain : (n : ℕ) → is_unit p n ≡ true → AllPlain (routes_of names p n)
    unit_plain n is =
        plain_all ⊥ [] no_context (routes_of names p n)
        (all_quiet ⊥ [] no_context names.home names.temp names.callee (names.label n) (names.callee n) (λ v k. has_scalar p n v k ≡ true) (λ m k c. uses_function p n m k c ≡ true) (λ m c. uses_procedure p n m c ≡ true) (names.room n) (gives_value p n ≡ true)
        (λ v k m h t. absurd t) (λ v m h t. absurd t) (λ g t. absurd t) (bodies_of p n) [] 0 (ready.bodies n is))
      where
        no_context : Context
        no_context = record { header = MainUnit; notes = [] }

    pub unit_is_quiet : (n : ℕ) → is_unit p n ≡ true → (q : Text) (c : Context) → ((v : ℕ) (k : Kind) (m : ℕ) → uses_function p n v k m ≡ true → bytes_eq q (names.callee v) ≡ false) →
        ((v m : ℕ) → uses_procedure p n v m ≡ true → bytes_eq q (names.callee v) ≡ false) → ((g : Intrinsic) → bytes_eq q (intrinsic_name g) ≡ false) → AllQuiet ⊤ q c (routes_of names p n)
    unit_is_quiet n is q c free free_too known =
        all_quiet ⊤ q c names.home names.temp names.callee (names.label n) (names.callee n) (λ v k. has_scalar p n v k ≡ true) (λ m k d. uses_function p n m k d ≡ true) (λ m d. uses_procedure p n m d ≡ true) (names.room n) (gives_value p n ≡ true)
        (λ v k m h t. free v k m h) (λ v m h t. free_too v m h) (λ g t. known g) (bodies_of p n) [] 0 (ready.bodies n is)

    pub no_ties : ties_of Rs ≡ []
    no_ties = no_ties_from 0 Rs (λ i v r e.
        let w = at_unit i r e in
        ap (λ s. unit_ties v s) (sym w.2) ∙ no_unit_ties i w.0 (unit_plain i (ap is_some w.1)) v)

    pub no_presets : presets_of Rs ≡ []
    no_presets = no_presets_from 0 Rs (λ i v r e.
        let w = at_unit i r e in
        ap (λ s. line_presets v 0 (context_of s) s.lines) (sym w.2) ∙ no_unit_presets i w.0 (unit_plain i (ap is_some w.1)) v)
