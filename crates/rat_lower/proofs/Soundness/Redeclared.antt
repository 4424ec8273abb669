-- A unit declares no name again where its source does not: its declarations are those of the source, with one of the spare name in
-- front.
use Rattle.std.proofs.Common.{◌≡◌, ◌≢◌, ℕ, zero, suc, ◌+◌, Bool, true, false, true≢false, List, [], ◌∷◌, ◌++◌, length, length-append, Some, None, refl, sym, ap, ◌∙◌, subst, arith}
use Rattle.std.specs.Prelude.{◌&&◌, ◌||◌, cond, map, option_map, ⊤, if◌then◌else◌}
use Rattle.std.specs.List.{list_any, slice_get}
use Rattle.std.specs.Str.{bytes_eq}
use Rattle.std.proofs.lemmas.Bool.{or_parts, or_from, lt-ltb}
use Rattle.std.proofs.lemmas.List.{append_assoc}
use Rattle.std.proofs.lemmas.Slice.Eq.{bytes_eq-Decides}
use Rattle.rule_table.specs.declared.rule.Rule.TheVariants.{DuplicateName}
use Rattle.rule_table.specs.Words.{first_place, is_below, repeats}
use Rattle.f66_tree.specs.declared.declaration.TypeWord.TheVariants.{Integer}
use Rattle.f66_tree.specs.Syntax.{Text, Declared, Act, Typed, Dimension, Common}
use Rattle.f66_tree.specs.Units.{is_note, Note, Context}
use Rattle.f66_names.specs.Declaring.{noted, is_sized, typed_in, declared_in, sized_in, listed_in, types, sizes}
use Rattle.f66_names.specs.NameRules.{redeclares}
use Rattle.unit_rules.specs.Listed.{common_in, equated_in}
use Rattle.unit_rules.specs.Roles.{mixes_roles}
use Rattle.unit_rules.specs.Heads.{declares_own}
use Rattle.unit_rules.specs.Storage.{commons, recommons, gives_sizes, was_given_sizes, is_held, holds_place, lists_again}
use Rattle.unit_rules.specs.UnitRules.{breaks_rule}
use Rattle.rat_check.proofs.SaidLemmas.{AllRight}
use Rattle.rat_lower.proofs.Accepted.NoFault.{AllOf}
use Rattle.rat_lower.proofs.Soundness.Early.{none_below, below_shifted}
use Rattle.rat_lower.proofs.Accepted.ActNames.{AllDeclared}

-- a statement gives names types, or dimensions in a type statement or DIMENSION, that one of those in front does too, or twice itself
abbrev redeclared : List Act → Act → Bool
redeclared front a =
    (list_any (λ d. list_any (types d.name) front) (typed_in a) || repeats (map (λ d. d.name) (typed_in a)))
    || (list_any (λ d. list_any (sizes d.name) front) (sized_in a) || repeats (map (λ d. d.name) (sized_in a)))

-- the same of COMMON, and of dimensions in any statement
abbrev relisted : List Act → Act → Bool
relisted front a =
    (list_any (λ d. list_any (commons d.name) front) (common_in a) || repeats (map (λ d. d.name) (common_in a)))
    || list_any (λ d. is_sized d && list_any (gives_sizes d.name) front) (listed_in a)

abbrev pub twice : List Act → Act → Bool
twice front a = redeclared front a || relisted front a

-- no statement of these does, behind those in front
abbrev pub Anew : List Act → List Act → Type 0
Anew front [] = ⊤
Anew front (a ∷ rest) = (twice front a ≡ false) × Anew (front ++ a ∷ []) rest

-- the same by the place of the statement
abbrev relists : List Act → ℕ → Act → Bool
relists acts i a = recommons acts i (common_in a) || list_any (was_given_sizes acts i) (listed_in a)

abbrev pub repeated : List Act → ℕ → Act → Bool
repeated acts i a = redeclares acts i a || relists acts i a

-- ---- by places ----

below : (test : Act → Bool) (front rest : List Act) → is_below (length front) (first_place test (front ++ rest)) ≡ list_any test front
below test [] rest = none_below (first_place test rest)
below test (x ∷ front) rest = by (test x) (below test front rest)
  where
    by : (v : Bool) → is_below (length front) (first_place test (front ++ rest)) ≡ list_any test front →
        is_below (suc (length front)) (cond v (Some 0) (option_map (λ n. n + 1) (first_place test (front ++ rest)))) ≡ (v || list_any test front)
    by true h = lt-ltb 0 (suc (length front)) (omega arith)
    by false h = below_shifted (length front) (first_place test (front ++ rest)) ∙ h

redeclares_at : (front rest : List Act) (a : Act) → redeclares (front ++ rest) (length front) a ≡ redeclared front a
redeclares_at front rest a =
    ap (λ (f : Declared → Bool). (list_any f (typed_in a) || repeats (map (λ d. d.name) (typed_in a))) || (list_any (λ d. is_below (length front) (first_place (sizes d.name) (front ++ rest))) (sized_in a) || repeats (map (λ d. d.name) (sized_in a))))
    (λ i d. below (types d.name) front rest i)
    ∙ ap (λ (f : Declared → Bool). (list_any (λ d. list_any (types d.name) front) (typed_in a) || repeats (map (λ d. d.name) (typed_in a))) || (list_any f (sized_in a) || repeats (map (λ d. d.name) (sized_in a))))
    (λ i d. below (sizes d.name) front rest i)

relists_at : (front rest : List Act) (a : Act) → relists (front ++ rest) (length front) a ≡ relisted front a
relists_at front rest a =
    ap (λ (f : Declared → Bool). (list_any f (common_in a) || repeats (map (λ d. d.name) (common_in a))) || list_any (λ d. is_sized d && is_below (length front) (first_place (gives_sizes d.name) (front ++ rest))) (listed_in a))
    (λ i d. below (commons d.name) front rest i)
    ∙ ap (λ (f : Declared → Bool). (list_any (λ d. list_any (commons d.name) front) (common_in a) || repeats (map (λ d. d.name) (common_in a))) || list_any (λ d. is_sized d && f d) (listed_in a))
    (λ i d. below (gives_sizes d.name) front rest i)

pub repeated_at : (front rest : List Act) (a : Act) → repeated (front ++ rest) (length front) a ≡ twice front a
repeated_at front rest a = ap (λ b. b || relists (front ++ rest) (length front) a) (redeclares_at front rest a) ∙ ap (λ b. redeclared front a || b) (relists_at front rest a)

-- what breaks no rule repeats nothing
right_repeats : (c : Context) (acts : List Act) (i : ℕ) (a : Act) → breaks_rule c acts i a DuplicateName ≡ false → repeated acts i a ≡ false
right_repeats c acts i a e =
    let h = or_parts (redeclares acts i a) (lists_again c acts i a || (declares_own c.header a || mixes_roles c acts a)) e in
    let k = or_parts (lists_again c acts i a) (declares_own c.header a || mixes_roles c acts a) h.1 in
    let held = list_any (λ (d : Declared). is_held c.header d.name) (common_in a) || list_any (holds_place c.header) (equated_in a) in
    let m = or_parts (recommons acts i (common_in a)) (list_any (was_given_sizes acts i) (listed_in a) || held) k.0 in
    let p = or_parts (list_any (was_given_sizes acts i) (listed_in a)) held m.1 in
    or_from (redeclares acts i a) _ h.0 (or_from (recommons acts i (common_in a)) _ m.0 p.0)

pub anew_of : (c : Context) (front acts : List Act) → AllRight c (front ++ acts) (length front) acts → Anew front acts
anew_of c front [] h = tt
anew_of c front (a ∷ rest) h =
    let more : length front + 1 ≡ length (front ++ a ∷ []) = sym (length-append front (a ∷ [])) in
    let here = right_repeats c (front ++ a ∷ rest) (length front) a (h.0 DuplicateName) in
    let next = subst (λ n. AllRight c (front ++ a ∷ rest) n rest) more h.1 in
    (sym (repeated_at front (a ∷ rest) a) ∙ here, anew_of c (front ++ a ∷ []) rest (subst (λ all. AllRight c all (length (front ++ a ∷ [])) rest) (sym (append_assoc front (a ∷ []) rest)) next))

pub anew_at : (front acts : List Act) (i : ℕ) (a : Act) → Anew front acts → slice_get acts i ≡ Some a → repeated (front ++ acts) (length front + i) a ≡ false
anew_at front [] i a h e = absurd (cc)
anew_at front (x ∷ rest) zero a h e =
    let same : x ≡ a = cc in
    let there : length front + 0 ≡ length front = omega arith in
    subst (λ y. repeated (front ++ x ∷ rest) (length front + 0) y ≡ false) same (ap (λ n. repeated (front ++ x ∷ rest) n x) there ∙ repeated_at front (x ∷ rest) x ∙ h.0)
anew_at front (x ∷ rest) (suc i) a h e =
    let there : length front + suc i ≡ length (front ++ x ∷ []) + i = omega (arith, length-append front (x ∷ [])) in
    ap (λ n. repeated (front ++ x ∷ rest) n a) there ∙ ap (λ all. repeated all (length (front ++ x ∷ []) + i) a) (sym (append_assoc front (x ∷ []) rest)) ∙ anew_at (front ++ x ∷ []) rest i a h.1 e

-- ---- declarations alone ----

-- the statements that are not executed
abbrev pub declarations : List Act → List Act
declarations acts = map (λ (n : Note). n.act) (noted acts)

not_types : (q : Text) (a : Act) → is_note a ≡ false → types q a ≡ false
not_types q (Typed t ds) e = absurd (true≢false e)
not_types q _ e = refl

not_sizes : (q : Text) (a : Act) → is_note a ≡ false → sizes q a ≡ false
not_sizes q (Typed t ds) e = absurd (true≢false e)
not_sizes q (Dimension ds) e = absurd (true≢false e)
not_sizes q _ e = refl

not_commons : (q : Text) (a : Act) → is_note a ≡ false → commons q a ≡ false
not_commons q (Common areas) e = absurd (true≢false e)
not_commons q _ e = refl

not_gives : (q : Text) (a : Act) → is_note a ≡ false → gives_sizes q a ≡ false
not_gives q (Typed t ds) e = absurd (true≢false e)
not_gives q (Dimension ds) e = absurd (true≢false e)
not_gives q (Common areas) e = absurd (true≢false e)
not_gives q _ e = refl

not_twice : (front : List Act) (a : Act) → is_note a ≡ false → twice front a ≡ false
not_twice front (Typed t ds) e = absurd (true≢false e)
not_twice front (Dimension ds) e = absurd (true≢false e)
not_twice front (Common areas) e = absurd (true≢false e)
not_twice front _ e = refl

any_declarations : (test : Act → Bool) → ((a : Act) → is_note a ≡ false → test a ≡ false) → (acts : List Act) → list_any test acts ≡ list_any test (declarations acts)
any_declarations test none [] = refl
any_declarations test none (a ∷ rest) = by (is_note a) refl (any_declarations test none rest)
  where
    by : (v : Bool) → is_note a ≡ v → list_any test rest ≡ list_any test (declarations rest) →
        (test a || list_any test rest) ≡ list_any test (map (λ (n : Note). n.act) (if v then (record { label = None; act = a } ∷ noted rest) else noted rest))
    by true e h = ap (λ b. test a || b) h
    by false e h = ap (λ b. b || list_any test rest) (none a e) ∙ h

redeclared_alike : (front : List Act) (a : Act) → redeclared front a ≡ redeclared (declarations front) a
redeclared_alike front a =
    ap (λ (f : Declared → Bool). (list_any f (typed_in a) || repeats (map (λ d. d.name) (typed_in a))) || (list_any (λ d. list_any (sizes d.name) front) (sized_in a) || repeats (map (λ d. d.name) (sized_in a))))
    (λ i d. any_declarations (types d.name) (not_types d.name) front i)
    ∙ ap (λ (f : Declared → Bool). (list_any (λ d. list_any (types d.name) (declarations front)) (typed_in a) || repeats (map (λ d. d.name) (typed_in a))) || (list_any f (sized_in a) || repeats (map (λ d. d.name) (sized_in a))))
    (λ i d. any_declarations (sizes d.name) (not_sizes d.name) front i)

relisted_alike : (front : List Act) (a : Act) → relisted front a ≡ relisted (declarations front) a
relisted_alike front a =
    ap (λ (f : Declared → Bool). (list_any f (common_in a) || repeats (map (λ d. d.name) (common_in a))) || list_any (λ d. is_sized d && list_any (gives_sizes d.name) front) (listed_in a))
    (λ i d. any_declarations (commons d.name) (not_commons d.name) front i)
    ∙ ap (λ (f : Declared → Bool). (list_any (λ d. list_any (commons d.name) (declarations front)) (common_in a) || repeats (map (λ d. d.name) (common_in a))) || list_any (λ d. is_sized d && f d) (listed_in a))
    (λ i d. any_declarations (gives_sizes d.name) (not_gives d.name) front i)

twice_alike : (front : List Act) (a : Act) → twice front a ≡ twice (declarations front) a
twice_alike front a = ap (λ b. b || relisted front a) (redeclared_alike front a) ∙ ap (λ b. redeclared (declarations front) a || b) (relisted_alike front a)

abbrev one_behind : (v : Bool) → List Act → Act → List Act
one_behind true front a = front ++ a ∷ []
one_behind false front a = front

declarations_behind : (front : List Act) (a : Act) → declarations (front ++ a ∷ []) ≡ one_behind (is_note a) (declarations front) a
declarations_behind [] a = by (is_note a)
  where
    by : (v : Bool) → map (λ (n : Note). n.act) (if v then (record { label = None; act = a } ∷ []) else []) ≡ one_behind v [] a
    by true = refl
    by false = refl
declarations_behind (x ∷ front) a = by (is_note x) (is_note a) (declarations_behind front a)
  where
    by : (v w : Bool) → declarations (front ++ a ∷ []) ≡ one_behind w (declarations front) a →
        map (λ (n : Note). n.act) (if v then (record { label = None; act = x } ∷ noted (front ++ a ∷ [])) else noted (front ++ a ∷ [])) ≡ one_behind w (map (λ (n : Note). n.act) (if v then (record { label = None; act = x } ∷ noted front) else noted front)) a
    by true true h = ap (λ xs. x ∷ xs) h
    by true false h = ap (λ xs. x ∷ xs) h
    by false true h = h
    by false false h = h

-- what is declared anew is so among the declarations, and the other way round
pub declarations_anew : (front acts : List Act) → Anew front acts → Anew (declarations front) (declarations acts)
declarations_anew front [] h = tt
declarations_anew front (a ∷ rest) h = by (is_note a) (declarations_behind front a) (declarations_anew (front ++ a ∷ []) rest h.1)
  where
    by : (v : Bool) → declarations (front ++ a ∷ []) ≡ one_behind v (declarations front) a → Anew (declarations (front ++ a ∷ [])) (declarations rest) →
        Anew (declarations front) (map (λ (n : Note). n.act) (if v then (record { label = None; act = a } ∷ noted rest) else noted rest))
    by true e k = (sym (twice_alike front a) ∙ h.0, subst (λ xs. Anew xs (declarations rest)) e k)
    by false e k = subst (λ xs. Anew xs (declarations rest)) e k

pub anew_declarations : (front acts : List Act) → Anew (declarations front) (declarations acts) → Anew front acts
anew_declarations front [] h = tt
anew_declarations front (a ∷ rest) h = by (is_note a) refl (declarations_behind front a) h (λ k. anew_declarations (front ++ a ∷ []) rest k)
  where
    by : (v : Bool) → is_note a ≡ v → declarations (front ++ a ∷ []) ≡ one_behind v (declarations front) a →
        Anew (declarations front) (map (λ (n : Note). n.act) (if v then (record { label = None; act = a } ∷ noted rest) else noted rest)) → (Anew (declarations (front ++ a ∷ [])) (declarations rest) → Anew (front ++ a ∷ []) rest) →
        (twice front a ≡ false) × Anew (front ++ a ∷ []) rest
    by true is e k go = (twice_alike front a ∙ k.0, go (subst (λ xs. Anew xs (declarations rest)) (sym e) k.1))
    by false is e k go = (not_twice front a is, go (subst (λ xs. Anew xs (declarations rest)) (sym e) k))

pub of_declarations : (Good : Act → Type 0) (acts : List Act) → AllOf Good acts → AllOf Good (declarations acts)
of_declarations Good [] h = tt
of_declarations Good (a ∷ rest) h = by (is_note a) (of_declarations Good rest h.1)
  where
    by : (v : Bool) → AllOf Good (declarations rest) → AllOf Good (map (λ (n : Note). n.act) (if v then (record { label = None; act = a } ∷ noted rest) else noted rest))
    by true k = (h.0, k)
    by false k = k

-- ---- the spare name ----

pub never_itself : (x y : Text) → x ≢ y → bytes_eq x y ≡ false
never_itself x y other = by (bytes_eq x y) refl
  where
    by : (v : Bool) → bytes_eq x y ≡ v → v ≡ false
    by true e = absurd (other ((bytes_eq-Decides x y).0 e))
    by false e = refl

module _ (spare : Text) where
  -- INTEGER spare
  abbrev pub declaration : Act
  declaration = Typed Integer (record { name = spare; sizes = [] } ∷ [])

  abbrev K : Text → Type 0
  K x = x ≢ spare

  typed_declared : (a : Act) → AllDeclared K (declared_in a) → AllDeclared K (typed_in a)
  typed_declared (Typed t ds) h = h
  typed_declared _ h = tt

  any_typed : (front : List Act) (ds : List Declared) → AllDeclared K ds → list_any (λ d. list_any (types d.name) (declaration ∷ front)) ds ≡ list_any (λ d. list_any (types d.name) front) ds
  any_typed front [] h = refl
  any_typed front (d ∷ ds) h =
      ap (λ b. ((b || false) || list_any (types d.name) front) || list_any (λ e. list_any (types e.name) (declaration ∷ front)) ds) (never_itself d.name spare h.0)
      ∙ ap (λ b. list_any (types d.name) front || b) (any_typed front ds h.1)

  behind_spare : (front : List Act) (a : Act) → AllDeclared K (declared_in a) → twice (declaration ∷ front) a ≡ twice front a
  behind_spare front a h =
      ap (λ b. ((b || repeats (map (λ d. d.name) (typed_in a))) || (list_any (λ d. list_any (sizes d.name) front) (sized_in a) || repeats (map (λ d. d.name) (sized_in a)))) || relisted front a) (any_typed front (typed_in a) (typed_declared a h))

  pub anew_behind : (front acts : List Act) → AllOf (λ a. AllDeclared K (declared_in a)) acts → Anew front acts → Anew (declaration ∷ front) acts
  anew_behind front [] k h = tt
  anew_behind front (a ∷ rest) k h = (behind_spare front a k.0 ∙ h.0, anew_behind (front ++ a ∷ []) rest k.1 h.1)
