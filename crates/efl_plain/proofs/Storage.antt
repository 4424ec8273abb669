-- The units of a program over scalars have a storage unit for each name with a place, so they are not too large where it needs little
-- storage.
use Rattle.std.proofs.Common.{◌≡◌, ◌≤◌, ◌<◌, ℕ, zero, suc, ◌+◌, Bool, true, false, true≢false, List, [], ◌∷◌, ◌++◌, map, take, length, None, Some, refl, sym, ap, ◌∙◌, subst, inl, inr, arith, if◌then◌else◌, ◌&&◌, not}
use Rattle.std.specs.Prelude.{is_none, is_some}
use Rattle.std.specs.List.{All, Contains, list_any, range_with_len, slice_get}
use Rattle.std.specs.Str.{bytes_eq}
use Rattle.std.proofs.lemmas.Bool.{and_parts, or_cases, eqb-true}
use Rattle.std.proofs.lemmas.List.{length-map}
use Rattle.std.proofs.lemmas.List.Elements.{All-contains, All-cons, All-nil}
use Rattle.std.proofs.lemmas.List.Folds.{Any-from_list_any, list_any-append}
use Rattle.std.proofs.lemmas.Option.{none-some, slice_get_within}
use Rattle.ground.specs.declared.value.Kind.{Kind}
use Rattle.ground.specs.declared.value.Kind.TheVariants.{Integer, Logical}
use Rattle.f66_tree.specs.Syntax.{Text, Header, MainUnit, Act, Line, Routine}
use Rattle.f66_tree.specs.Units.{Context, places_of}
use Rattle.f66_tree.specs.Evaluation.{intrinsics, array_or, sort_of, is_array}
use Rattle.f66_program.specs.Mentions.{Mention, AVariable, mentions_of_sizes, mentions_in, context_of, is_variable, is_function, declares, mentioned, is_dummy, is_own_value, has_places}
use Rattle.f66_program.specs.Association.{size_in, IsReal, HasUnits}
use Rattle.f66_program.specs.Linking.{Part, IsTooLarge, IsWhole}
use Rattle.efl_tree.specs.Syntax.{EflProcedure, EflProgram}
use Rattle.efl_scope.specs.Marks.{Located, program_variables}
use Rattle.efl_types.specs.Signatures.{Result, Gives, result_of}
use Rattle.efl_types.specs.Whole.{TellsWhole}
use Rattle.efl_typed.specs.Typing.{bodies_of}
use Rattle.efl_typed.proofs.Each.{Each}
use Rattle.plain_units.specs.Plain.{IsPlain}
use Rattle.routes.specs.Routes.{Route, Plain, BreakIf, Break, Ring, Cycle, Block, InTurn, Labelled, Transfer, Routes, NoRoute, AndRoute}
use Rattle.routes.specs.Code.{transfer, all_code}
use Rattle.routes.specs.Units.{ending}
use Rattle.routed_units.specs.Routed.{RouteActs, AllActs}
use Rattle.routed_units.proofs.Acts.{all_acts}
use Rattle.efl_lowered.specs.Naming.{Naming}
use Rattle.efl_lowered.specs.Lowering.{word_of, stands_in, gives, calls, variables_in, functions_in, temps_of, named_header, header_of, dummies, declared_scalar, typed_names, typed_of, routes_of, lines_of, unit_of, units_of}
use Rattle.efl_lowered.specs.Facts.{is_unit, AreReady}
use Rattle.efl_lowered.specs.Names.{AreNames}
use Rattle.efl_lowered.specs.Needs.{all_need}
use Rattle.efl_lowered.proofs.Declared.{typed_declares}
use Rattle.efl_lowered.proofs.Lists.{some_and, text_is}
use Rattle.efl_lowered.proofs.TypedChecks.{each_at, each_on}
use Rattle.efl_lowered.proofs.TypedVariables.{each_mapped}
use Rattle.efl_lowered.proofs.UnitLemmas.{at_unit, unit_sizes, no_unit_ties, unit_plain}
use Rattle.efl_plain.specs.Matched.{AreMatched}
use Rattle.efl_plain.specs.Names.{IsVariableName, Home, Temporary, Own, IsFunctionName, IsProcedureName}
use Rattle.efl_plain.specs.Small.{HasLittleStorage}
use Rattle.efl_plain.proofs.Alike.{no_array}
use Rattle.efl_plain.proofs.Counted.{few_units}
use Rattle.efl_plain.proofs.Distinct.{each_all, each_number, each_range}
use Rattle.efl_plain.proofs.Linked.{units_whole}
use Rattle.efl_plain.proofs.Mentioned.{IsOne, AreOnes, SaysOnes, plain_says}
use Rattle.efl_plain.proofs.PlainActs.{ArePlainActs}
use Rattle.efl_plain.proofs.OneUnit.{few_in_unit}
use Rattle.efl_plain.proofs.Rows.{there_mapped, rows, home_there, call_there, name_there, temp_there, few_rows}
use Rattle.efl_plain.proofs.Said.{Say, lines_say}

-- ---- lists ----

found : {X : Type 0} (P : X → Type 0) (test : X → Bool) (xs : List X) → Each P xs → list_any test xs ≡ true → (x : X) × P x × (test x ≡ true)
found P test [] h t = absurd (true≢false (sym t))
found {X} P test (x ∷ xs) h t = elim (or_cases (test x) (list_any test xs) t) [ inl a ↦ (x, h.0, a) | inr b ↦ found P test xs h.1 b ]

-- what stands among the first so many stands in the list
among_first : {X : Type 0} (k : ℕ) (xs : List X) (i : ℕ) (x : X) → slice_get (take k xs) i ≡ Some x → slice_get xs i ≡ Some x
among_first zero xs i x e = absurd (none-some x e)
among_first (suc k) [] i x e = absurd (none-some x e)
among_first (suc k) (y ∷ xs) zero x e = e
among_first (suc k) (y ∷ xs) (suc i) x e = among_first k xs i x e

-- ---- statements of routes ----

module _ (P Q : Act → Type 0) (f : (a : Act) → P a → Q a) where
  mutual
    route_fact : (r : Route) → RouteActs P r → RouteActs Q r
    route_fact (Plain p a) h = f a h
    route_fact (BreakIf p e k) h = λ l. f _ (h l)
    route_fact (Break p k) h = tt
    route_fact (Ring p rs) h = all_fact rs h
    route_fact (Cycle p top rest) h = (all_fact top h.0, all_fact rest h.1)
    route_fact (Block rs) h = all_fact rs h
    route_fact (InTurn rs) h = all_fact rs h
    route_fact (Labelled m p r) h = route_fact r h
    route_fact (Transfer p way u fs es) h = (λ l. f (transfer way u l es) (h.0 l), f _ h.1)

    all_fact : (rs : Routes) → AllActs P rs → AllActs Q rs
    all_fact NoRoute h = tt
    all_fact (AndRoute r rs) h = (route_fact r h.0, all_fact rs h.1)

-- ---- units ----

-- a unit that has not too many storage units
abbrev pub HasFewUnits : Routine → Type 0
HasFewUnits r = (total : ℕ) × HasUnits (r ∷ []) total × (total ≤ 2000000)

module _ (p : EflProgram) (names : Naming) (ready : AreReady p names) (acts : (n : ℕ) → is_unit p n ≡ true → ArePlainActs p names n) where
  abbrev Vs : List Located
  Vs = program_variables p

  module _ (n : ℕ) (u : EflProcedure) (here : slice_get p.procedures n ≡ Some u) where
    abbrev V : Text → Kind → Type 0
    V = IsVariableName p names n

    abbrev F : Text → Kind → Type 0
    F = IsFunctionName p names n

    abbrev S : Text → Type 0
    S = IsProcedureName p names n

    abbrev c : Context
    c = context_of (unit_of names p n u)

    abbrev lines : List Line
    lines = lines_of names p n u

    is : is_unit p n ≡ true
    is = ap is_some here

    below : n < length p.procedures
    below = slice_get_within p.procedures n u here

    no_sizes : (x : Text) → size_in c x ≡ 1
    no_sizes x = ap places_of (unit_sizes p names n u (unit_plain p names ready n is) x)

    no_arrays : (x : Text) → is_array (sort_of c x) ≡ false
    no_arrays x = ap (λ ns. is_array (array_or ns x)) (unit_sizes p names n u (unit_plain p names ready n is) x) ∙ no_array intrinsics x

    -- a name is among the rows
    abbrev IsHere : Text → Type 0
    IsHere q = Contains (rows p names) (n, q)

    variable_here : (q : Text) (k : Kind) → V q k → IsHere q
    variable_here q k (Home v h e) = let s = some_and (stands_in n k) (slice_get Vs v) h in subst IsHere (sym e) (home_there p names n v s.0 s.1 (eqb-true s.0.unit n (and_parts _ _ s.2).0))
    variable_here q k (Temporary i le e) = subst IsHere (sym e) (temp_there p names n below k i le)
    variable_here q k (Own f g e) = subst IsHere (sym e) (name_there p names n below)

    -- ---- the names that type statements declare ----

    typed_here : (k : Kind) → Each IsHere (typed_names names p n k)
    typed_here k =
        each_on IsHere (map names.home (variables_in Vs n k) ++ temps_of names n k) (map names.callee (functions_in p n k))
        (each_on IsHere (map names.home (variables_in Vs n k)) (temps_of names n k)
        (each_mapped IsHere names.home (variables_in Vs n k) (each_number (λ x. stands_in n k x.1) (λ v. IsHere (names.home v)) 0 Vs (λ i x e t.
        let z : i ≡ 0 + i = omega arith in subst (λ v. IsHere (names.home v)) z (home_there p names n i x e (eqb-true x.unit n (and_parts _ _ t).0)))))
        (each_mapped IsHere (names.temp k) (range_with_len 0 (names.room n + 1)) (each_range (λ i. IsHere (names.temp k i)) 0 (names.room n + 1) (λ i low le. temp_there p names n below k i (omega (le, arith))))))
        (each_mapped IsHere names.callee (functions_in p n k) (each_number (λ x. gives k x.1 && calls p n x.0) (λ m. IsHere (names.callee m)) 0 p.procedures (λ i x e t. call_there p names n (0 + i) (and_parts _ _ t).1)))

    declares_here : (k : Kind) (q : Text) → list_any (λ s. declares q s.act) (typed_of names p n k u.place) ≡ true → IsHere q
    declares_here k q h =
        let f = found IsHere (bytes_eq q) (typed_names names p n k) (typed_here k) (sym (typed_declares u.place (word_of k) q (length (typed_names names p n k)) (typed_names names p n k) (omega arith)) ∙ h) in
        subst IsHere (sym (text_is q f.0 f.2)) f.1

    says : AllActs (SaysOnes V F S c) (routes_of names p n)
    says = all_fact (IsPlain V F S) (SaysOnes V F S c) (plain_says V F S c no_arrays) (routes_of names p n) (acts n is)

    abbrev code : List Line
    code = all_code (names.made n) (routes_of names p n) 0 [] (ending (is_none u.name) u.finish)

    code_declares : (q : Text) → All (λ s. declares q s.act ≡ false) code
    code_declares q =
        all_acts (names.made n) (λ a. declares q a ≡ false) (λ l. refl) refl (routes_of names p n) 0 [] (ending (is_none u.name) u.finish)
        (all_fact (SaysOnes V F S c) (λ a. declares q a ≡ false) (λ a s. s.none q) (routes_of names p n) says) (by_main (is_none u.name))
      where
        by_main : (b : Bool) → All (λ s. declares q s.act ≡ false) (ending b u.finish)
        by_main true = All-cons (λ s. declares q s.act ≡ false) _ [] refl (All-nil (λ s. declares q s.act ≡ false))
        by_main false = All-cons (λ s. declares q s.act ≡ false) _ [] refl (All-nil (λ s. declares q s.act ≡ false))

    declared_here : (q : Text) → list_any (λ s. declares q s.act) lines ≡ true → IsHere q
    declared_here q h = elim (or_cases (list_any D (types Integer ++ types Logical)) (list_any D code) (sym (list_any-append D (types Integer ++ types Logical) code) ∙ h)) [
      | inl t ↦ elim (or_cases (list_any D (types Integer)) (list_any D (types Logical)) (sym (list_any-append D (types Integer) (types Logical)) ∙ t)) [
        | inl i ↦ declares_here Integer q i
        | inr l ↦ declares_here Logical q l
      ]
      | inr t ↦
          let a = Any-from_list_any D code t in
          absurd (true≢false (sym a.4 ∙ All-contains (λ s. declares q s.act ≡ false) code a.1 (code_declares q) (a.0, a.2, a.3)))
    ]
      where
        D : Line → Bool
        D s = declares q s.act

        types : Kind → List Line
        types k = typed_of names p n k u.place

    -- ---- the names that statements name ----

    no_mentions : (xs : List Text) → AreOnes V F S (mentions_of_sizes (map declared_scalar xs))
    no_mentions [] = tt
    no_mentions (x ∷ xs) = no_mentions xs

    abbrev Ones : Act → Type 0
    Ones a = AreOnes V F S (mentions_in c a)

    lines_ones : Say Ones lines
    lines_ones = lines_say Ones (λ t xs le. no_mentions xs) (λ l. tt) tt tt tt p names n u (all_fact (SaysOnes V F S c) Ones (λ a s. s.ones) (routes_of names p n) says)

    one_here : (q : Text) (m : Mention) → IsOne V F S m → is_variable q m ≡ true → IsHere q
    one_here q (AVariable x) h t = subst IsHere (sym (text_is q x t)) (variable_here x h.0 h.1)
    one_here q _ h t = absurd (true≢false (sym t))

    mentioned_here : (q : Text) → mentioned (is_variable q) c lines ≡ true → IsHere q
    mentioned_here q h =
        let a = Any-from_list_any (λ s. list_any (is_variable q) (mentions_in c s.act)) lines h in
        let f = found (IsOne V F S) (is_variable q) (mentions_in c a.1.act) (All-contains (λ s. Ones s.act) lines a.1 lines_ones (a.0, a.2, a.3)) a.4 in
        one_here q f.0 f.1 f.2

    -- ---- all names with places ----

    own_is : (q : Text) (b : Bool) (r : Result) (ds : List Text) → is_own_value q (if b then MainUnit else (named_header names n r ds)) ≡ true → q ≡ names.callee n
    own_is q false (Gives k) ds h = text_is q (names.callee n) h
    own_is q _ _ ds h = absurd (true≢false (sym h))

    own_here : (q : Text) → is_own_value q (header_of names Vs n u) ≡ true → IsHere q
    own_here q h = subst IsHere (sym (own_is q (is_none u.name) (result_of u.result) (dummies names Vs n u) h)) (name_there p names n below)

    places_here : (q : Text) → has_places (unit_of names p n u) q ≡ true → IsHere q
    places_here q h =
        let h1 : Header = header_of names Vs n u in
        let rest = (and_parts (not (is_dummy q h1)) _ h).1 in
        elim (or_cases (is_own_value q h1) _ rest) [
          | inl o ↦ own_here q o
          | inr others ↦ elim (or_cases (mentioned (is_variable q) c lines) _ others) [
            | inl m ↦ mentioned_here q m
            | inr d ↦ declared_here q (and_parts (list_any (λ s. declares q s.act) lines) (not (mentioned (is_function q) c lines)) d).0
          ]
        ]

  abbrev Rs : List Routine
  Rs = units_of names p

  -- each unit alone has few storage units where the program needs little
  few_alone : ((n : ℕ) → names.room n ≤ all_need (bodies_of p n) 0) → HasLittleStorage p → (n : ℕ) (u : EflProcedure) → slice_get p.procedures n ≡ Some u → HasFewUnits (unit_of names p n u)
  few_alone rooms little n u here =
      let few = few_in_unit (unit_of names p n u) (no_unit_ties p names n u (unit_plain p names ready n (ap is_some here)) 0) (no_sizes n u here) (map (λ x. x.1) (rows p names))
      (λ x h. there_mapped (λ x. x.1) (rows p names) (n, x) (places_here n u here x h)) in
      let many = length-map (rows p names) (λ x. x.1) in
      let le = few_rows p names rooms in
      let most = few.2 in
      (few.0, few.1, omega (most, many, le, little, arith))

  pub each_few : ((n : ℕ) → names.room n ≤ all_need (bodies_of p n) 0) → HasLittleStorage p → All HasFewUnits Rs
  each_few rooms little = each_all HasFewUnits Rs (each_at HasFewUnits Rs (λ n r e. let w = at_unit p names n r e in subst HasFewUnits w.2 (few_alone rooms little n w.0 w.1)))

  real_there : (k v : ℕ) (x : Text) (o : ℕ) → IsReal (take k Rs) v x o → (o ≡ 0) × Contains (rows p names) (v, x)
  real_there k v x o r =
      let w = at_unit p names v r.unit (among_first k Rs v r.unit r.here) in
      let one : size_in (context_of r.unit) x ≡ 1 = ap (λ s. size_in (context_of s) x) (sym w.2) ∙ no_sizes v w.0 w.1 x in
      let inside = r.inside in
      (omega (inside, one, arith), places_here v w.0 w.1 x (ap (λ s. has_places s x) w.2 ∙ r.named))

  -- the units are not too large where the program needs little storage
  pub no_storage_fault : ((n : ℕ) → names.room n ≤ all_need (bodies_of p n) 0) → HasLittleStorage p → (q : Part) → ¬ IsTooLarge (record { units = Rs; finish = p.finish }) q
  no_storage_fault rooms little q h =
      let few = few_units (take (suc q.unit) Rs) (rows p names) (real_there (suc q.unit)) h.total h.has in
      let le = few_rows p names rooms in
      let large = h.large in
      omega (few, le, little, large, arith)

  -- so they are a whole program, where the program breaks no rule
  pub program_whole : AreNames p names → TellsWhole p None → AreMatched p → ((n : ℕ) → names.room n ≤ all_need (bodies_of p n) 0) → HasLittleStorage p → IsWhole (record { units = Rs; finish = p.finish })
  program_whole apart whole matched rooms little = units_whole p names apart ready whole matched (no_storage_fault rooms little)
