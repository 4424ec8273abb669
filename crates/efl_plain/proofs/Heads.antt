-- The header of a unit is of its own name and its dummies, and its type statements are of its variables, its temporaries and the functions
-- that it calls, each once.
use Rattle.std.proofs.Common.{◌≡◌, ◌⊎◌, ℕ, zero, suc, ◌+◌, ◌≤◌, Bool, true, false, true≢false, List, [], ◌∷◌, ◌++◌, map, length, take, drop, Option, None, Some, inl, inr, refl, sym, ap, ◌∙◌, subst, arith, if◌then◌else◌, ◌&&◌}
use Rattle.std.specs.Prelude.{nat_eq, nat_le, is_some, is_none}
use Rattle.std.specs.List.{All, flat_map, range_with_len, slice_get}
use Rattle.std.specs.Str.{bytes_eq}
use Rattle.std.proofs.lemmas.Bool.{and_parts, and_from, eq-eqb, leb-true, le-leb}
use Rattle.std.proofs.lemmas.Grind.{flat_map-append}
use Rattle.std.proofs.lemmas.List.{take-append-drop, length-drop, map-append}
use Rattle.std.proofs.lemmas.Simd.{map-map}
use Rattle.ground.specs.declared.place.Place.{Place}
use Rattle.ground.specs.declared.value.Kind.{Kind}
use Rattle.ground.specs.declared.value.Kind.TheVariants.{Integer, Logical}
use Rattle.rule_table.specs.Words.{repeats}
use Rattle.f66_tree.specs.declared.declaration.TypeWord.{TypeWord}
use Rattle.f66_tree.specs.Syntax.{Text, Header, MainUnit, FuncUnit, Line}
use Rattle.unit_rules.specs.Heads.{is_settled}
use Rattle.plain_units.specs.Known as known
use Rattle.plain_units.specs.Known.{IsShort, AreDummies, IsPlainHeader, IsHead}
use Rattle.efl_tree.specs.Syntax.{EflProcedure, EflProgram}
use Rattle.efl_scope.specs.Marks.{Located, program_variables}
use Rattle.efl_types.specs.Signatures.{Result, Nothing, Gives, Unknown, result_of}
use Rattle.efl_typed.specs.Linking.{formals_in}
use Rattle.efl_typed.proofs.Each.{Each, each_left, each_right}
use Rattle.efl_typed.proofs.FoundLemmas.{either}
use Rattle.efl_lowered.specs.Naming.{Naming}
use Rattle.efl_lowered.specs.Lowering.{word_of, or_spare, named_header, header_of, dummies, stands_in, variables_in, is_result, gives, calls, functions_in, on_a_card, declared_scalar, typed_lines, typed_of, typed_names}
use Rattle.efl_lowered.specs.Facts.{is_unit, is_named, gives_kind, has_value, has_scalar, has_variable, AreReady}
use Rattle.efl_lowered.specs.Names.{Name, OfVariable, OfTemporary, OfProcedure, OfIntrinsic, text_of, has_name, AreNames}
use Rattle.efl_lowered.proofs.Lists.{or_left, or_right, and_some}
use Rattle.efl_lowered.proofs.Apart.{same_variable, same_temporary, same_procedure, variable_no_temporary, variable_no_procedure, temporary_no_procedure, is_kind, same_kind, is_typed, unlike, unit_kind}
use Rattle.efl_lowered.proofs.Seats.{formals_are}
use Rattle.efl_lowered.proofs.TypedChecks.{each_at, each_fact, each_on}
use Rattle.efl_lowered.proofs.TypedVariables.{each_mapped}
use Rattle.efl_plain.specs.Names.{IsVariableName, Home, Temporary, Own, IsFunctionName, IsProcedureName, AreShort}
use Rattle.efl_plain.proofs.Distinct.{each_all, each_range, each_number, IsOther, Distinct, distinct_at, distinct_range, distinct_numbers, distinct_mapped, distinct_joined, never_again}

pub same_word : (k : Kind) → word_of k ≡ known.word_of k
same_word Integer = refl
same_word Logical = refl

kind_is : (k j : Kind) → is_kind k j ≡ true → k ≡ j
kind_is Integer Integer e = refl
kind_is Logical Logical e = refl
kind_is Integer Logical e = absurd (true≢false (sym e))
kind_is Logical Integer e = absurd (true≢false (sym e))

gives_result : (k : Kind) → is_result k (Gives k) ≡ true
gives_result Integer = refl
gives_result Logical = refl

some_name : (o : Option Text) → is_none o ≡ false → is_some o ≡ true
some_name None h = absurd (true≢false h)
some_name (Some x) h = refl

-- ---- type statements of names ----

names_of : (xs : List Text) → map (λ d. d.name) (map declared_scalar xs) ≡ xs
names_of [] = refl
names_of (x ∷ xs) = ap (λ ys. x ∷ ys) (names_of xs)

-- they have all names, in their order
lines_name : (place : Place) (t : TypeWord) (most : ℕ) (xs : List Text) → length xs ≤ most → flat_map known.typed_names (typed_lines most place t xs) ≡ xs
lines_name place t zero [] le = refl
lines_name place t zero (x ∷ xs) le = absurd (omega (le, arith))
lines_name place t (suc most) [] le = refl
lines_name place t (suc most) (x ∷ xs) le =
    let first = take on_a_card (x ∷ xs) in
    let ys = drop on_a_card (x ∷ xs) in
    let fewer : length ys ≤ most = omega (arith, le, length-drop 8 (x ∷ xs)) in
    ap (λ zs. zs ++ flat_map known.typed_names (typed_lines most place t ys)) (names_of first) ∙ ap (λ zs. first ++ zs) (lines_name place t most ys fewer) ∙ take-append-drop on_a_card (x ∷ xs)

module _ (V F : Text → Kind → Type 0) (S : Text → Type 0) (h : Header) (k : Kind) where
  -- a variable or function of this type, and not the unit itself
  abbrev IsIn : Text → Type 0
  IsIn x = (V x k ⊎ F x k) × (is_settled h x ≡ false)

  lines_head : (place : Place) (most : ℕ) (xs : List Text) → Each IsIn xs → Each (IsHead V F S h) (typed_lines most place (word_of k) xs)
  lines_head place zero xs is = tt
  lines_head place (suc most) [] is = tt
  lines_head place (suc most) (x ∷ xs) is =
      let first = take on_a_card (x ∷ xs) in
      let ys = drop on_a_card (x ∷ xs) in
      let all : Each IsIn (first ++ ys) = subst (Each IsIn) (sym (take-append-drop on_a_card (x ∷ xs))) is in (
        record {
          label = refl;
          typing = (
            k,
            same_word k,
            omega arith,
            each_all (known.IsGiven V F S h k) (map declared_scalar first)
                (each_mapped (known.IsGiven V F S h k) declared_scalar first (each_fact IsIn (λ y. known.IsGiven V F S h k (declared_scalar y)) first (λ y g. record { is = g.0; sizes = refl; other = g.1 }) (each_left IsIn first ys all))),
          );
        },
        lines_head place most ys (each_right IsIn first ys all),
      )

module _ (p : EflProgram) (names : Naming) (apart : AreNames p names) (ready : AreReady p names) (short : AreShort p names) (n : ℕ) (u : EflProcedure) (here : slice_get p.procedures n ≡ Some u) where
  abbrev V : Text → Kind → Type 0
  V = IsVariableName p names n

  abbrev F : Text → Kind → Type 0
  F = IsFunctionName p names n

  abbrev S : Text → Type 0
  S = IsProcedureName p names n

  abbrev Vs : List Located
  Vs = program_variables p

  abbrev vs : List ℕ
  vs = formals_in Vs n u

  abbrev own : Text
  own = names.callee n

  abbrev spare : Text
  spare = names.temp Integer (names.room n)

  abbrev unit_header : Header
  unit_header = header_of names Vs n u

  abbrev HasName : Name → Type 0
  HasName a = has_name p names n a ≡ true

  is : is_unit p n ≡ true
  is = ap is_some here

  text_tells : (a b : Name) → HasName a → HasName b → text_of names a ≡ text_of names b → a ≡ b
  text_tells a b h k e = apart.apart n a b is h k e

  texts_of : (f : ℕ → Name) (ws : List ℕ) → map (text_of names) (map f ws) ≡ map (λ i. text_of names (f i)) ws
  texts_of f ws = map-map (text_of names) f ws

  room_for : HasName (OfTemporary Integer (names.room n))
  room_for = le-leb (names.room n) (names.room n) (omega arith)

  module _ (some : is_none u.name ≡ false) where
    named : is_named p n ≡ true
    named = and_some (λ w. is_some w.name) (slice_get p.procedures n) u here (some_name u.name some)

    has_own : HasName (OfProcedure n)
    has_own = or_left (is_named p n && nat_eq n n) (calls p n n) (and_from (is_named p n) (nat_eq n n) named (eq-eqb n n refl))

  -- ---- header ----

  variable_of : (v : ℕ) → has_variable p n v ≡ true → (k : Kind) × V (names.home v) k
  variable_of v h = elim (either (has_scalar p n v Integer) (has_scalar p n v Logical) h) [
    | inl i ↦ (Integer, Home v i refl)
    | inr i ↦ (Logical, Home v i refl)
  ]

  abbrev HasVariable : ℕ → Type 0
  HasVariable v = has_variable p n v ≡ true

  are_dummies : (ws : List ℕ) → Each HasVariable ws → AreDummies V F S (map names.home ws)
  are_dummies [] h = tt
  are_dummies (w ∷ ws) h = (variable_of w h.0, are_dummies ws h.1)

  formals_known : Each HasVariable vs
  formals_known = each_at HasVariable vs (λ i v e. ready.formal n i v (ap (λ ws. slice_get ws i) (formals_are p names n u here) ∙ e))

  formals_apart : Distinct vs
  formals_apart = let same = λ (i : ℕ). ap (λ ws. slice_get ws i) (formals_are p names n u here) in distinct_at vs (λ i j v e f. short.once n i j v (same i ∙ e) (same j ∙ f))

  names_once : HasName (OfProcedure n) → (ws : List ℕ) → Each HasVariable ws → Distinct ws → repeats (own ∷ map names.home ws) ≡ false
  names_once has ws h d =
      ap (λ ts. repeats (own ∷ ts)) (sym (texts_of OfVariable ws))
      ∙ never_again (text_of names) HasName text_tells (OfProcedure n ∷ map OfVariable ws) (has, each_mapped HasName OfVariable ws h)
      (each_mapped (IsOther (OfProcedure n)) OfVariable ws (each_at (λ v. IsOther (OfProcedure n) (OfVariable v)) ws (λ i v e same. variable_no_procedure v n (sym same))), distinct_mapped OfVariable same_variable ws d)

  spare_once : HasName (OfProcedure n) → repeats (own ∷ spare ∷ []) ≡ false
  spare_once has = never_again (text_of names) HasName text_tells (OfProcedure n ∷ OfTemporary Integer (names.room n) ∷ []) (has, (room_for, tt)) ((λ e. temporary_no_procedure Integer (names.room n) n (sym e), tt), (tt, tt))

  own_short : HasName (OfProcedure n) → IsShort own
  own_short has = short.short n (OfProcedure n) is has

  own_value : is_none u.name ≡ false → (k : Kind) → result_of u.result ≡ Gives k → V own k
  own_value some k e =
      let value : gives_kind p n k ≡ true = and_some (gives k) (slice_get p.procedures n) u here (ap (is_result k) e ∙ gives_result k) in
      Own (and_from (is_named p n) (has_value p n) (named some) (one_of k value)) value refl
    where
      one_of : (j : Kind) → gives_kind p n j ≡ true → has_value p n ≡ true
      one_of Integer h = or_left (gives_kind p n Integer) (gives_kind p n Logical) h
      one_of Logical h = or_right (gives_kind p n Integer) (gives_kind p n Logical) h

  function_header : is_none u.name ≡ false → (k : Kind) → result_of u.result ≡ Gives k → (ws : List ℕ) → Each HasVariable ws → Distinct ws → IsPlainHeader V F S (FuncUnit (Some (word_of k)) own (or_spare spare (map names.home ws)))
  function_header some k e [] h d = ((k, same_word k, own_value some k e), omega arith, spare_once (has_own some), ((Integer, Temporary (names.room n) (omega arith) refl), tt))
  function_header some k e (w ∷ ws) h d = ((k, same_word k, own_value some k e), omega arith, names_once (has_own some) (w ∷ ws) h d, are_dummies (w ∷ ws) h)

  named_plain : is_none u.name ≡ false → (r : Result) → result_of u.result ≡ r → IsPlainHeader V F S (named_header names n r (dummies names Vs n u))
  named_plain some (Gives k) e = function_header some k e vs formals_known formals_apart
  named_plain some Nothing e = (own_short (has_own some), names_once (has_own some) vs formals_known formals_apart, are_dummies vs formals_known)
  named_plain some Unknown e = (own_short (has_own some), names_once (has_own some) vs formals_known formals_apart, are_dummies vs formals_known)

  header_plain : (b : Bool) → is_none u.name ≡ b → IsPlainHeader V F S (if b then MainUnit else named_header names n (result_of u.result) (dummies names Vs n u))
  header_plain true e = tt
  header_plain false e = named_plain e (result_of u.result) refl

  pub header : IsPlainHeader V F S (header_of names (program_variables p) n u)
  header = header_plain (is_none u.name) refl

  -- ---- what is in type statements ----

  abbrev IsTypedName : Kind → Name → Type 0
  IsTypedName k a = is_typed p names n k a ≡ true

  typed_named : (k : Kind) (a : Name) → IsTypedName k a → HasName a
  typed_named Integer (OfVariable v) h = or_left (has_scalar p n v Integer) (has_scalar p n v Logical) h
  typed_named Logical (OfVariable v) h = or_right (has_scalar p n v Integer) (has_scalar p n v Logical) h
  typed_named k (OfTemporary j i) h = (and_parts (is_kind j k) (nat_le i (names.room n)) h).1
  typed_named k (OfProcedure m) h = or_right (is_named p n && nat_eq m n) (calls p n m) (and_parts (gives_kind p m k) (calls p n m) h).1
  typed_named k (OfIntrinsic g) h = refl

  -- no procedure calls itself
  typed_other : (k : Kind) (a : Name) → IsTypedName k a → a ≡ OfProcedure n → ⊥
  typed_other k a h e = true≢false (sym (and_parts (gives_kind p n k) (calls p n n) (ap (is_typed p names n k) (sym e) ∙ h)).1 ∙ short.other n)

  typed_is : (k : Kind) (a : Name) → IsTypedName k a → V (text_of names a) k ⊎ F (text_of names a) k
  typed_is k (OfVariable v) h = inl (Home v h refl)
  typed_is k (OfTemporary j i) h =
      let g = and_parts (is_kind j k) (nat_le i (names.room n)) h in inl (Temporary i (leb-true i (names.room n) g.1) (ap (λ d. names.temp d i) (kind_is j k g.0)))
  typed_is k (OfProcedure m) h =
      let g = and_parts (gives_kind p m k) (calls p n m) h in inr (record { number = m; called = g.1; named = short.called m n g.1; gives = g.0; is = refl })
  typed_is k (OfIntrinsic g) h = absurd (true≢false (sym h))

  -- the header gives a type to the unit's own name alone
  settled_by : (r : Result) (q : Text) → bytes_eq q own ≡ false → is_settled (named_header names n r (dummies names Vs n u)) q ≡ false
  settled_by (Gives k) q h = h
  settled_by Nothing q h = h
  settled_by Unknown q h = h

  typed_unsettled : (k : Kind) (a : Name) → IsTypedName k a → is_settled unit_header (text_of names a) ≡ false
  typed_unsettled k a h = by_name (is_none u.name) refl
    where
      by_name : (b : Bool) → is_none u.name ≡ b → is_settled (if b then MainUnit else named_header names n (result_of u.result) (dummies names Vs n u)) (text_of names a) ≡ false
      by_name true e = refl
      by_name false e = settled_by (result_of u.result) (text_of names a) (unlike p names apart n is a (OfProcedure n) (typed_named k a h) (has_own e) (typed_other k a h))

  -- ---- the names of type statements ----

  abbrev variables : Kind → List Name
  variables k = map OfVariable (variables_in Vs n k)

  abbrev temporaries : Kind → List Name
  temporaries k = map (OfTemporary k) (range_with_len 0 (names.room n + 1))

  abbrev functions : Kind → List Name
  functions k = map OfProcedure (functions_in p n k)

  abbrev listed : Kind → List Name
  listed k = (variables k ++ temporaries k) ++ functions k

  listed_texts : (k : Kind) → map (text_of names) (listed k) ≡ typed_names names p n k
  listed_texts k =
      map-append (text_of names) (variables k ++ temporaries k) (functions k)
      ∙ ap (λ xs. xs ++ map (text_of names) (functions k)) (map-append (text_of names) (variables k) (temporaries k))
      ∙ ap (λ xs. (xs ++ map (text_of names) (temporaries k)) ++ map (text_of names) (functions k)) (texts_of OfVariable (variables_in Vs n k))
      ∙ ap (λ xs. (map names.home (variables_in Vs n k) ++ xs) ++ map (text_of names) (functions k)) (texts_of (OfTemporary k) (range_with_len 0 (names.room n + 1)))
      ∙ ap (λ xs. (map names.home (variables_in Vs n k) ++ map (names.temp k) (range_with_len 0 (names.room n + 1))) ++ xs) (texts_of OfProcedure (functions_in p n k))

  -- each has the type
  listed_typed : (k : Kind) → Each (IsTypedName k) (listed k)
  listed_typed k =
      each_on (IsTypedName k) (variables k ++ temporaries k) (functions k)
      (each_on (IsTypedName k) (variables k) (temporaries k)
      (each_mapped (IsTypedName k) OfVariable (variables_in Vs n k) (each_number (λ x. stands_in n k x.1) (λ v. has_scalar p n v k ≡ true) 0 Vs (λ i x e t. let z : 0 + i ≡ i = omega arith in ap (λ m. has_scalar p n m k) z ∙ and_some (stands_in n k) (slice_get Vs i) x e t)))
      (each_mapped (IsTypedName k) (OfTemporary k) (range_with_len 0 (names.room n + 1))
      (each_range (λ i. IsTypedName k (OfTemporary k i)) 0 (names.room n + 1) (λ i le lt. and_from (is_kind k k) (nat_le i (names.room n)) (same_kind k) (le-leb i (names.room n) (omega (lt, arith)))))))
      (each_mapped (IsTypedName k) OfProcedure (functions_in p n k)
      (each_number (λ x. gives k x.1 && calls p n x.0) (λ m. IsTypedName k (OfProcedure m)) 0 p.procedures
      (λ i w e t.
      let z : 0 + i ≡ i = omega arith in
      let g = and_parts (gives k w) (calls p n (0 + i)) t in
      and_from (gives_kind p (0 + i) k) (calls p n (0 + i)) (ap (λ m. gives_kind p m k) z ∙ and_some (gives k) (slice_get p.procedures i) w e g.0) g.1)))

  abbrev NoTemporary : Name → Type 0
  NoTemporary a = (k : Kind) (i : ℕ) → a ≡ OfTemporary k i → ⊥

  abbrev NoProcedure : Name → Type 0
  NoProcedure a = (m : ℕ) → a ≡ OfProcedure m → ⊥

  listed_apart : (k : Kind) → Distinct (listed k)
  listed_apart k =
      let ws = variables_in Vs n k in
      let ts = range_with_len 0 (names.room n + 1) in
      let ms = functions_in p n k in
      distinct_joined NoProcedure (λ a. (m : ℕ) × (a ≡ OfProcedure m)) (λ x y h g e. h g.0 (e ∙ g.1)) (variables k ++ temporaries k) (functions k)
      (distinct_joined NoTemporary (λ a. (i : ℕ) × (a ≡ OfTemporary k i)) (λ x y h g e. h k g.0 (e ∙ g.1)) (variables k) (temporaries k)
      (distinct_mapped OfVariable same_variable ws (distinct_numbers (λ x. stands_in n k x.1) 0 Vs))
      (distinct_mapped (OfTemporary k) (λ i j e. (same_temporary k k i j e).1) ts (distinct_range 0 (names.room n + 1)))
      (each_mapped NoTemporary OfVariable ws (each_at (λ v. NoTemporary (OfVariable v)) ws (λ i v e. variable_no_temporary v)))
      (each_mapped (λ a. (i : ℕ) × (a ≡ OfTemporary k i)) (OfTemporary k) ts (each_at (λ i. (j : ℕ) × (OfTemporary k i ≡ OfTemporary k j)) ts (λ i j e. (j, refl)))))
      (distinct_mapped OfProcedure same_procedure ms (distinct_numbers (λ x. gives k x.1 && calls p n x.0) 0 p.procedures))
      (each_on NoProcedure (variables k) (temporaries k)
      (each_mapped NoProcedure OfVariable ws (each_at (λ v. NoProcedure (OfVariable v)) ws (λ i v e. variable_no_procedure v)))
      (each_mapped NoProcedure (OfTemporary k) ts (each_at (λ i. NoProcedure (OfTemporary k i)) ts (λ i j e. temporary_no_procedure k j))))
      (each_mapped (λ a. (m : ℕ) × (a ≡ OfProcedure m)) OfProcedure ms (each_at (λ i. (m : ℕ) × (OfProcedure i ≡ OfProcedure m)) ms (λ i m e. (m, refl))))

  one_kind : (a b : Name) → IsTypedName Integer a → IsTypedName Logical b → a ≡ b → ⊥
  one_kind a b h g e =
      let kind = unit_kind p names apart ready n u here in
      let f : IsTypedName Logical a = ap (is_typed p names n Logical) e ∙ g in
      let same : Integer ≡ Logical = sym (kind Integer a (typed_named Integer a h) h) ∙ kind Logical a (typed_named Logical a f) f in
      true≢false (ap (is_kind Integer) same)

  all_once : repeats (typed_names names p n Integer ++ typed_names names p n Logical) ≡ false
  all_once =
      let has = λ (k : Kind). each_fact (IsTypedName k) HasName (listed k) (typed_named k) (listed_typed k) in
      let both = map-append (text_of names) (listed Integer) (listed Logical) ∙ ap (λ xs. xs ++ map (text_of names) (listed Logical)) (listed_texts Integer) ∙ ap (λ xs. typed_names names p n Integer ++ xs) (listed_texts Logical) in
      ap repeats (sym both)
      ∙ never_again (text_of names) HasName text_tells (listed Integer ++ listed Logical) (each_on HasName (listed Integer) (listed Logical) (has Integer) (has Logical))
      (distinct_joined (IsTypedName Integer) (IsTypedName Logical) one_kind (listed Integer) (listed Logical) (listed_apart Integer) (listed_apart Logical) (listed_typed Integer) (listed_typed Logical))

  -- ---- type statements ----

  names_in : (k : Kind) → Each (IsIn V F S unit_header k) (typed_names names p n k)
  names_in k =
      subst (Each (IsIn V F S unit_header k)) (listed_texts k)
      (each_mapped (IsIn V F S unit_header k) (text_of names) (listed k)
      (each_fact (IsTypedName k) (λ a. IsIn V F S unit_header k (text_of names a)) (listed k) (λ a h. (typed_is k a h, typed_unsettled k a h)) (listed_typed k)))

  module _ (place : Place) where
    abbrev types : Kind → List Line
    types k = typed_of names p n k place

    heads_in : (k : Kind) → Each (IsHead V F S unit_header) (types k)
    heads_in k = lines_head V F S unit_header k place (length (typed_names names p n k)) (typed_names names p n k) (names_in k)

    pub typing : All (λ s. IsHead V F S (header_of names (program_variables p) n u) s) (typed_of names p n Integer place ++ typed_of names p n Logical place)
    typing = each_all (IsHead V F S unit_header) (types Integer ++ types Logical) (each_on (IsHead V F S unit_header) (types Integer) (types Logical) (heads_in Integer) (heads_in Logical))

    pub once : repeats (flat_map known.typed_names (typed_of names p n Integer place ++ typed_of names p n Logical place)) ≡ false
    once =
        let told = λ (k : Kind). lines_name place (word_of k) (length (typed_names names p n k)) (typed_names names p n k) (omega arith) in
        ap repeats (flat_map-append known.typed_names (types Integer) (types Logical) ∙ ap (λ xs. xs ++ flat_map known.typed_names (types Logical)) (told Integer) ∙ ap (λ xs. typed_names names p n Integer ++ xs) (told Logical)) ∙ all_once
