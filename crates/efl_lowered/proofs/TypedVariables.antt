-- Each variable that a program over scalars lists or meets has a number, which is that of a scalar of its type in its procedure.
use Rattle.std.proofs.Common.{◌≡◌, ℕ, zero, suc, ◌+◌, Bool, true, false, true≢false, cond, List, [], ◌∷◌, ◌++◌, map, Option, None, Some, refl, sym, ap, ◌∙◌, subst, arith}
use Rattle.std.specs.Prelude.{⊤, ◌&&◌, ◌||◌, nat_eq, filter_map, flat_map, option_map, unwrap_or, if◌then◌else◌}
use Rattle.std.specs.List.{list_any, slice_get, cons_option}
use Rattle.std.specs.Str.{bytes_eq}
use Rattle.std.proofs.lemmas.Bool.{eqb-true, eq-eqb}
use Rattle.std.proofs.lemmas.Option.{none-some, same_Some}
use Rattle.rule_table.specs.Words.{first_place, find_map}
use Rattle.ground.specs.declared.place.Place.{Place}
use Rattle.ground.specs.declared.value.Kind.{Kind}
use Rattle.ground.specs.declared.value.Kind.TheVariants as kinds
use Rattle.efl_tree.specs.Syntax.{Text, EflProcedure, EflProgram}
use Rattle.efl_scope.specs.DataTypes as types
use Rattle.efl_scope.specs.DataTypes.{DataType}
use Rattle.efl_scope.specs.Scopes.{Variable, Blocks, Meaning, IsVariable, IsStructure, variable_of, variable_if, meaning, implied_of}
use Rattle.efl_scope.specs.Parts.{Form, Header, Declares, Groups, States, Until, Chooses, Around, Part, part, parts_by, parts_from, program_parts}
use Rattle.efl_scope.specs.Uses.{Use, Named, Applied, Laid, uses_in}
use Rattle.efl_scope.specs.Marks.{Located, same_located, undeclared_by, met_by, implied_at, variables_by, located_at, distinct, program_variables, meant_by, number_of}
use Rattle.efl_typed.proofs.Each.{Each, each_left, each_right, each_flat}
use Rattle.efl_typed.proofs.FoundLemmas.{both}
use Rattle.efl_lowered.specs.Lowering.{is_scalar, stands_in}
use Rattle.efl_lowered.specs.Facts.{has_scalar, IsOverScalars}
use Rattle.efl_lowered.proofs.Lists.{or_left, or_right, text_is, same_text, and_some}
use Rattle.efl_lowered.proofs.TypedChecks.{each_at, at_each, each_fact, each_both, each_on}
use Rattle.efl_lowered.proofs.TypedCalls.{and_true}
use Rattle.efl_lowered.proofs.TypedBlocks.{NoArea, Lists}
use Rattle.efl_lowered.proofs.TypedWalk.{root, up, IsCanonical, CanonicalBy, AreCanonical, FactsBy, Facts, IsGiven, procedure_facts}

-- ---- lists ----

pub each_joined : {X Y : Type 0} (P : Y → Type 0) (f : X → List Y) (xs : List X) → Each (λ x. Each P (f x)) xs → Each P (flat_map f xs)
each_joined P f [] h = tt
each_joined P f (x ∷ xs) h = each_on P (f x) (flat_map f xs) h.0 (each_joined P f xs h.1)

pub each_mapped : {X Y : Type 0} (P : Y → Type 0) (f : X → Y) (xs : List X) → Each (λ x. P (f x)) xs → Each P (map f xs)
each_mapped P f [] h = tt
each_mapped P f (x ∷ xs) h = (h.0, each_mapped P f xs h.1)

-- the parts of all procedures, and those of one
pub all_parts : (Q : Part → Type 0) (k : ℕ) (us : List EflProcedure) → ((i : ℕ) (u : EflProcedure) → slice_get us i ≡ Some u → Each Q (parts_by (k + i) u)) → Each Q (parts_from k us)
all_parts Q k [] h = tt
all_parts Q k (u ∷ us) h =
    each_on Q (parts_by k u) (parts_from (k + 1) us) (let e : k + 0 ≡ k = omega arith in subst (λ m. Each Q (parts_by m u)) e (h 0 u refl))
    (all_parts Q (k + 1) us (λ i w g. let e : k + suc i ≡ k + 1 + i = omega arith in subst (λ m. Each Q (parts_by m w)) e (h (suc i) w g)))

pub unit_parts : (Q : Part → Type 0) (k : ℕ) (us : List EflProcedure) (i : ℕ) (u : EflProcedure) → slice_get us i ≡ Some u → Each Q (parts_from k us) → Each Q (parts_by (k + i) u)
unit_parts Q k [] i u e h = absurd (none-some u e)
unit_parts Q k (w ∷ us) zero u e h = let z : k ≡ k + 0 = omega arith in subst (λ x. Each Q (parts_by (k + 0) x)) (same_Some w u e) (subst (λ m. Each Q (parts_by m w)) z (each_left Q (parts_by k w) (parts_from (k + 1) us) h))
unit_parts Q k (w ∷ us) (suc i) u e h = let z : k + 1 + i ≡ k + suc i = omega arith in subst (λ m. Each Q (parts_by m u)) z (unit_parts Q (k + 1) us i u e (each_right Q (parts_by k w) (parts_from (k + 1) us) h))

-- of all procedures from the first on
pub own_parts : (Q : Part → Type 0) (us : List EflProcedure) (i : ℕ) (u : EflProcedure) → slice_get us i ≡ Some u → Each Q (parts_from 0 us) → Each Q (parts_by i u)
own_parts Q us i u e h = let z : 0 + i ≡ i = omega arith in subst (λ m. Each Q (parts_by m u)) z (unit_parts Q 0 us i u e h)

pub every_part : (Q : Part → Type 0) (us : List EflProcedure) → ((i : ℕ) (u : EflProcedure) → slice_get us i ≡ Some u → Each Q (parts_by i u)) → Each Q (parts_from 0 us)
every_part Q us h = all_parts Q 0 us (λ i u e. let z : i ≡ 0 + i = omega arith in subst (λ m. Each Q (parts_by m u)) z (h i u e))

-- the first that passes, where one does
pub placed : {X : Type 0} (test : X → Bool) (xs : List X) → list_any test xs ≡ true → (i : ℕ) × (x : X) × (first_place test xs ≡ Some i) × (slice_get xs i ≡ Some x) × (test x ≡ true)
placed test [] h = absurd (true≢false (sym h))
placed {X} test (x ∷ xs) h = by_test (test x) refl (placed test xs) h
  where
    by_test : (b : Bool) → test x ≡ b → (list_any test xs ≡ true → (i : ℕ) × (y : X) × (first_place test xs ≡ Some i) × (slice_get xs i ≡ Some y) × (test y ≡ true)) → (b || list_any test xs) ≡ true →
        (i : ℕ) × (y : X) × (cond b (Some 0) (option_map (λ n. n + 1) (first_place test xs)) ≡ Some i) × (slice_get (x ∷ xs) i ≡ Some y) × (test y ≡ true)
    by_test true t later g = (0, x, refl, refl, t)
    by_test false t later g = let w = later g in let e : w.0 + 1 ≡ suc w.0 = omega arith in (suc w.0, w.1, ap (option_map (λ n. n + 1)) w.2 ∙ ap Some e, w.3, w.4)

-- ---- variables once each ----

same_itself : (x : Located) → same_located x x ≡ true
same_itself x =
    and_true (nat_eq x.unit x.unit) _ (eq-eqb x.unit x.unit refl) (and_true (bytes_eq x.variable.home x.variable.home) (bytes_eq x.variable.name x.variable.name) (same_text x.variable.home) (same_text x.variable.name))

distinct_each : (Q : Located → Type 0) (before xs : List Located) → Each Q xs → Each Q (distinct before xs)
distinct_each Q before [] h = tt
distinct_each Q before (x ∷ xs) h = by_test (list_any (same_located x) before) (distinct_each Q before xs h.1) (distinct_each Q (x ∷ before) xs h.1)
  where
    by_test : (b : Bool) → Each Q (distinct before xs) → Each Q (distinct (x ∷ before) xs) → Each Q (if b then (distinct before xs) else (x ∷ distinct (x ∷ before) xs))
    by_test true f g = f
    by_test false f g = (h.0, g)

-- it is among those before, or among the others
abbrev IsKept : List Located → List Located → Located → Type 0
IsKept before ys l = (list_any (same_located l) before || list_any (same_located l) ys) ≡ true

turned : (a b d : Bool) → ((a || b) || d) ≡ true → (b || (a || d)) ≡ true
turned true true d h = refl
turned true false d h = refl
turned false b d h = h

distinct_has : (before xs : List Located) → Each (IsKept before (distinct before xs)) xs
distinct_has before [] = tt
distinct_has before (x ∷ xs) = by_test (list_any (same_located x) before) refl (distinct_has before xs) (distinct_has (x ∷ before) xs)
  where
    by_test : (b : Bool) → list_any (same_located x) before ≡ b → Each (IsKept before (distinct before xs)) xs → Each (IsKept (x ∷ before) (distinct (x ∷ before) xs)) xs →
        Each (IsKept before (if b then (distinct before xs) else (x ∷ distinct (x ∷ before) xs))) (x ∷ xs)
    by_test true e f g = (or_left _ _ e, f)
    by_test false e f g = (
      or_right (list_any (same_located x) before) _ (or_left (same_located x x) _ (same_itself x)),
      each_fact (IsKept (x ∷ before) (distinct (x ∷ before) xs)) (IsKept before (x ∷ distinct (x ∷ before) xs)) xs
          (λ l k. turned (same_located l x) (list_any (same_located l) before) (list_any (same_located l) (distinct (x ∷ before) xs)) k) g,
    )

-- ---- what a part lists and meets is canonical ----

abbrev Anything : Located → Type 0
Anything l = ⊤

-- a variable that is canonical in its procedure
abbrev pub IsOwn : List EflProcedure → Located → Type 0
IsOwn us l = (w : EflProcedure) × (slice_get us l.unit ≡ Some w) × IsCanonical us l.unit w Anything l.variable

module _ (us : List EflProcedure) (n : ℕ) (u : EflProcedure) (here : slice_get us n ≡ Some u) where
  abbrev Canon : Variable → Type 0
  Canon v = IsCanonical us n u Anything v

  one_listed : (y : Text) (o : Option Meaning) (vs : List Variable) → CanonicalBy us n u Anything y o → Each Canon vs → Each Canon (cons_option (variable_if o) vs)
  one_listed y None vs h k = k
  one_listed y (Some (IsVariable v)) vs h k = (h, k)
  one_listed y (Some (IsStructure ms)) vs h k = k

  listed_canonical : (bs : Blocks) → AreCanonical us n u Anything bs → (xs : List Text) → Each Canon (filter_map (λ x. variable_if (meaning bs x)) xs)
  listed_canonical bs can [] = tt
  listed_canonical bs can (x ∷ xs) = one_listed x (meaning bs x) (filter_map (λ x. variable_if (meaning bs x)) xs) (can x) (listed_canonical bs can xs)

  one_met : (x : Text) (o : Option Meaning) (vs : List Variable) → CanonicalBy us n u Anything x o → Each Canon vs → Each Canon (cons_option (undeclared_by (implied_of u) x o) vs)
  one_met x None vs h k = (sym (ap (meant_by (implied_of u) x) h), k)
  one_met x (Some m) vs h k = k

  met_canonical : (bs : Blocks) → AreCanonical us n u Anything bs → (ws : List Use) → Each Canon (filter_map (met_by (implied_of u) bs) ws)
  met_canonical bs can [] = tt
  met_canonical bs can (Named x ∷ ws) = one_met x (meaning bs x) (filter_map (met_by (implied_of u) bs) ws) (can x) (met_canonical bs can ws)
  met_canonical bs can (Applied x ∷ ws) = met_canonical bs can ws
  met_canonical bs can (Laid x ∷ ws) = met_canonical bs can ws

  located_own : (a : Around) (xs : List Text) (ws : List Use) → a.unit ≡ n → AreCanonical us n u Anything a.blocks →
      Each (IsOwn us) (map (λ x. record { unit = a.unit; variable = x }) (filter_map (λ x. variable_if (meaning a.blocks x)) xs ++ filter_map (met_by (implied_at us a.unit) a.blocks) ws))
  located_own a xs ws same can =
      let rules : implied_of u ≡ implied_at us a.unit = sym (ap (implied_at us) same ∙ ap (λ o. unwrap_or (option_map implied_of o) []) here) in
      let vs = filter_map (λ x. variable_if (meaning a.blocks x)) xs in
      let met = subst (λ r. Each Canon (filter_map (met_by r a.blocks) ws)) rules (met_canonical a.blocks can ws) in
      each_mapped (IsOwn us) (λ x. record { unit = a.unit; variable = x }) (vs ++ filter_map (met_by (implied_at us a.unit) a.blocks) ws)
      (each_fact Canon (λ x. IsOwn us (record { unit = a.unit; variable = x })) (vs ++ filter_map (met_by (implied_at us a.unit) a.blocks) ws)
      (λ x c. subst (λ m. IsOwn us (record { unit = m; variable = x })) (sym same) (u, here, c)) (each_on Canon vs (filter_map (met_by (implied_at us a.unit) a.blocks) ws) (listed_canonical a.blocks can xs) met))

  part_own : (a : Around) (p : Place) (f : Form) → a.unit ≡ n → FactsBy us n u Anything a f → Each (IsOwn us) (located_at us (part a p f))
  part_own a p (Header o fs) same can = located_own a fs [] same can
  part_own a p (Declares before k) same can = located_own a (variables_by (Declares before k)) (uses_in (Declares before k)) same can
  part_own a p (Groups before t vs) same can = tt
  part_own a p (States ls k) same can = located_own a [] (uses_in (States ls k)) same can.0
  part_own a p (Until e) same can = located_own a [] (uses_in (Until e)) same can.0
  part_own a p (Chooses zs fallback before seen) same can = tt

-- ---- numbers ----

scalar_kind : (t : DataType) → (is_scalar kinds.Integer t || is_scalar kinds.Logical t) ≡ true → (k : Kind) × (t ≡ types.Scalar k)
scalar_kind (types.Scalar kinds.Integer) h = (kinds.Integer, refl)
scalar_kind (types.Scalar kinds.Logical) h = (kinds.Logical, refl)
scalar_kind (types.Structured ms) h = absurd (true≢false (sym h))
scalar_kind (types.Array bs t) h = absurd (true≢false (sym h))
scalar_kind types.NoType h = absurd (true≢false (sym h))

is_its_kind : (k : Kind) → is_scalar k (types.Scalar k) ≡ true
is_its_kind kinds.Integer = refl
is_its_kind kinds.Logical = refl

-- of one key there is one variable
same_variable : (us : List EflProcedure) (l x : Located) → IsOwn us l → IsOwn us x → same_located l x ≡ true → (l.unit ≡ x.unit) × (l.variable ≡ x.variable)
same_variable us l x own its h =
    let one = both (nat_eq l.unit x.unit) (bytes_eq l.variable.home x.variable.home && bytes_eq l.variable.name x.variable.name) h in
    let two = both (bytes_eq l.variable.home x.variable.home) (bytes_eq l.variable.name x.variable.name) one.1 in
    let unit : l.unit ≡ x.unit = eqb-true l.unit x.unit one.0 in
    let home : l.variable.home ≡ x.variable.home = text_is l.variable.home x.variable.home two.0 in
    let name : l.variable.name ≡ x.variable.name = text_is l.variable.name x.variable.name two.1 in
    let proc : own.0 ≡ its.0 = same_Some own.0 its.0 (sym own.1 ∙ ap (slice_get us) unit ∙ its.1) in (
      unit,
      own.2 ∙ ap (λ m. means m own.0 l.variable.home l.variable.name) unit ∙ ap (λ w. means x.unit w l.variable.home l.variable.name) proc
          ∙ ap (λ q. means x.unit its.0 q l.variable.name) home ∙ ap (means x.unit its.0 x.variable.home) name ∙ sym its.2,
    )
  where
    means : ℕ → EflProcedure → List ℕ → Text → Variable
    means m w q y = meant_by (implied_of w) y (find_map (variable_of y) (root us m w Anything (up q [])))

module _ (p : EflProgram) (over : IsOverScalars p) where
  abbrev us : List EflProcedure
  us = p.procedures

  abbrev all : List Located
  all = flat_map (located_at us) (program_parts p)

  -- no part declares an area
  no_areas : Each NoArea (program_parts p)
  no_areas = each_at NoArea (program_parts p) over.no_common

  unit_facts : (P : Located → Type 0) → Each (Lists us P) (program_parts p) → (n : ℕ) (u : EflProcedure) → slice_get us n ≡ Some u → Each (Facts us n u P) (parts_by n u)
  unit_facts P h n u e =
      procedure_facts us n u P (own_parts (IsGiven us n u P) us n u e (each_both NoArea (Lists us P) (program_parts p) no_areas h))

  anything : (xs : List Located) → Each Anything xs
  anything [] = tt
  anything (x ∷ xs) = (tt, anything xs)

  any_parts : (vs : List Part) → Each (Lists us Anything) vs
  any_parts [] = tt
  any_parts (v ∷ vs) = (anything (located_at us v), any_parts vs)

  all_own : Each (IsOwn us) all
  all_own =
      each_joined (IsOwn us) (located_at us) (program_parts p) (every_part (λ v. Each (IsOwn us) (located_at us v)) us
      (λ n u e. each_fact (Facts us n u Anything) (λ v. Each (IsOwn us) (located_at us v)) (parts_by n u) (λ v f. part_own us n u e v.around v.place v.form f.0 f.1) (unit_facts Anything (any_parts (program_parts p)) n u e)))

  -- it is a scalar of the program, with this number
  abbrev pub IsNumberedScalar : Located → Type 0
  IsNumberedScalar l = (k : Kind) × (l.variable.kind ≡ types.Scalar k) × (has_scalar p l.unit (number_of (program_variables p) l.unit l.variable) k ≡ true)

  numbered_scalar : (l : Located) → IsOwn us l → list_any (same_located l) (program_variables p) ≡ true → IsNumberedScalar l
  numbered_scalar l own h =
      let w = placed (same_located l) (program_variables p) h in
      let its = at_each (IsOwn us) (program_variables p) (distinct_each (IsOwn us) [] all all_own) w.0 w.1 w.3 in
      let same = same_variable us l w.1 own its w.4 in
      let kind = scalar_kind w.1.variable.kind (over.scalar w.0 w.1 w.3) in
      let number : number_of (program_variables p) l.unit l.variable ≡ w.0 = ap (λ o. unwrap_or o 0) w.2 in (
        kind.0,
        ap (λ v. v.kind) same.1 ∙ kind.1,
        ap (λ i. has_scalar p l.unit i kind.0) number
            ∙ and_some (stands_in l.unit kind.0) (slice_get (program_variables p) w.0) w.1 w.3 (and_true (nat_eq w.1.unit l.unit) _ (eq-eqb w.1.unit l.unit (sym same.0)) (ap (is_scalar kind.0) kind.1 ∙ is_its_kind kind.0)),
      )

  all_numbered : Each IsNumberedScalar all
  all_numbered =
      each_fact (λ l. IsOwn us l × IsKept [] (program_variables p) l) IsNumberedScalar all (λ l h. numbered_scalar l h.0 h.1) (each_both (IsOwn us) (IsKept [] (program_variables p)) all all_own (distinct_has [] all))

  pub parts_numbered : Each (Lists us IsNumberedScalar) (program_parts p)
  parts_numbered = each_flat IsNumberedScalar (located_at us) (program_parts p) all_numbered

  pub numbered_facts : (n : ℕ) (u : EflProcedure) → slice_get us n ≡ Some u → Each (Facts us n u IsNumberedScalar) (parts_by n u)
  numbered_facts = unit_facts IsNumberedScalar parts_numbered
