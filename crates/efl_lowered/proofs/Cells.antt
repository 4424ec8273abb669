-- The storage of a program over scalars: each variable that is no formal and each function's value has one storage unit, and its cell is
-- that of its name in its unit.
use Rattle.std.proofs.Common.{◌≡◌, ℕ, zero, suc, ◌+◌, ◌-◌, ◌≤◌, Bool, true, true≢false, List, [], ◌∷◌, ◌++◌, map, length, take, Option, None, Some, refl, sym, ap, ◌∙◌, subst, arith, ◌||◌, ◌&&◌}
use Rattle.std.specs.Prelude.{unwrap_or, sum, flat_map}
use Rattle.std.specs.List.{Contains, slice_get}
use Rattle.std.specs.Option.{option_map, option_and_then}
use Rattle.std.proofs.lemmas.Bool.{and_parts}
use Rattle.std.proofs.lemmas.List.Sums.{sum_by-cons}
use Rattle.std.proofs.lemmas.Option.{none-some, slice_get_within, slice_get_past}
use Rattle.ground.specs.declared.value.Kind.TheVariants.{Integer, Logical}
use Rattle.ground.specs.Content.{Nothing}
use Rattle.f66_tree.specs.Units.{Linkage}
use Rattle.f66_tree.specs.World.{fresh}
use Rattle.f66_program.specs.Initial.{Preset}
use Rattle.f66_program.specs.Linking.{IsLinkage}
use Rattle.efl_tree.specs.Syntax.{EflProcedure, EflProgram}
use Rattle.efl_scope.specs.DataTypes as types
use Rattle.efl_scope.specs.Parts.{Part, program_parts}
use Rattle.efl_scope.specs.Marks.{Located, program_variables}
use Rattle.efl_types.specs.TypeRules as rules
use Rattle.efl_typed.specs.Typing.{sort_of}
use Rattle.efl_typed.specs.Linking.{place_in_area, area_owner, size_of, unit_of, preset_by, presets_by, linkage_of}
use Rattle.efl_program.specs.Places.{places}
use Rattle.efl_lowered.specs.Naming.{Naming}
use Rattle.efl_lowered.specs.Lowering.{is_scalar}
use Rattle.efl_lowered.specs.Facts.{is_unit, IsOverScalars, AreReady}
use Rattle.efl_lowered.specs.Names.{Name, OfVariable, OfProcedure, text_of, AreNames}
use Rattle.efl_lowered.proofs.UnitLemmas.{Rs, no_presets}
use Rattle.efl_lowered.proofs.Apart.{same_variable, same_procedure, variable_no_procedure}
use Rattle.efl_lowered.proofs.Seats.{is_seated, seats_apart}

past_end : {X : Type 0} (xs : List X) (i : ℕ) → slice_get xs i ≡ None → length xs ≤ i
past_end [] i e = omega arith
past_end (x ∷ xs) zero e = absurd (none-some x (sym e))
past_end (x ∷ xs) (suc i) e = let le = past_end xs i e in omega (le, arith)

-- ---- one storage unit each ----

scalar_size : (t : types.DataType) → (is_scalar Integer t || is_scalar Logical t) ≡ true → places (sort_of t) ≡ 1
scalar_size (types.Scalar k) h = refl
scalar_size (types.Structured ms) h = absurd (true≢false (sym h))
scalar_size (types.Array bs t) h = absurd (true≢false (sym h))
scalar_size types.NoType h = absurd (true≢false (sym h))

ones : (xs : List Located) → ((i : ℕ) (x : Located) → slice_get xs i ≡ Some x → size_of x ≡ 1) → (v : ℕ) → v ≤ length xs → sum (map size_of (take v xs)) ≡ v
ones [] h zero le = refl
ones [] h (suc v) le = absurd (omega (le, arith))
ones (x ∷ xs) h zero le = refl
ones (x ∷ xs) h (suc v) le =
    let later = ones xs (λ i. h (suc i)) v (omega (le, arith)) in
    let first = h 0 x refl in
    sum_by-cons (λ n. n) (size_of x) (map size_of (take v xs)) ∙ omega (later, first, arith)

-- ---- without initial values ----

no_flat : {X Y : Type 0} (f : X → List Y) (xs : List X) → ((i : ℕ) (x : X) → slice_get xs i ≡ Some x → f x ≡ []) → flat_map f xs ≡ []
no_flat f [] h = refl
no_flat f (x ∷ xs) h = ap (λ ys. ys ++ flat_map f xs) (h 0 x refl) ∙ no_flat f xs (λ i. h (suc i))

module _ (p : EflProgram) (over : IsOverScalars p) where
  abbrev Vs : List Located
  Vs = program_variables p

  one_size : (v : ℕ) (x : Located) → slice_get Vs v ≡ Some x → size_of x ≡ 1
  one_size v x e = scalar_size x.variable.kind (over.scalar v x e)

  pub unit_is : (v : ℕ) → v ≤ length Vs → unit_of Vs v ≡ v
  unit_is v le = ones Vs one_size v le

  pub number_is : (v : ℕ) (x : Located) → slice_get Vs v ≡ Some x → (linkage_of p).number v 0 ≡ v
  number_is v x e =
      let lt = slice_get_within Vs v x e in
      let is = unit_is v (omega (lt, arith)) in
      omega (is, arith)

  pub result_is : (n : ℕ) → (linkage_of p).result n ≡ length Vs + n
  result_is n = let is = unit_is (length Vs) (omega arith) in omega (is, arith)

  pub extent_is : (v : ℕ) (x : Located) → slice_get Vs v ≡ Some x → (linkage_of p).extent v ≡ 1
  extent_is v x e = ap (λ o. unwrap_or (option_map size_of o) 0) e ∙ one_size v x e

  pub owner_is : (v : ℕ) (x : Located) → slice_get Vs v ≡ Some x → (linkage_of p).owner v ≡ v
  owner_is v x e =
      ap (λ o. unwrap_or (option_and_then (λ y. option_and_then (λ q. option_and_then (area_owner p Vs q) (place_in_area p y q)) y.variable.area) o) v) e
      ∙ ap (λ o. unwrap_or (option_and_then (λ q. option_and_then (area_owner p Vs q) (place_in_area p x q)) o) v) (over.no_area v x e)

  none_preset : (v : Part) (o : Option EflProcedure) → rules.presets_of v.form ≡ [] → unwrap_or (option_map (λ u. flat_map (preset_by p Vs v u) (rules.presets_of v.form)) o) [] ≡ []
  none_preset v None e = refl
  none_preset v (Some u) e = ap (flat_map (preset_by p Vs v u)) e

  pub empty_first : (q : ℕ) → (linkage_of p).first q ≡ Nothing
  empty_first q = ap (λ cs. fresh cs q) (no_flat (presets_by p Vs) (program_parts p) (λ i v e. none_preset v (slice_get p.procedures v.around.unit) (over.no_initial i v e)))

-- ---- cells ----

module _ (p : EflProgram) (names : Naming) where
  abbrev Xs : List Located
  Xs = program_variables p

  -- whose storage unit of the source this is: the unit, and the name in it
  abbrev pub seat_by : ℕ → Option Located → ℕ × Name
  seat_by q (Some x) = (x.unit, OfVariable q)
  seat_by q None = (q - length Xs, OfProcedure (q - length Xs))

  abbrev pub seat : ℕ → ℕ × Name
  seat q = seat_by q (slice_get Xs q)

  abbrev pub is_place : ℕ → Bool
  is_place q = is_unit p (seat q).0 && is_seated p names (seat q).0 (seat q).1

  seat_once : (q r : ℕ) (a b : Option Located) → slice_get Xs q ≡ a → slice_get Xs r ≡ b → (seat_by q a).1 ≡ (seat_by r b).1 → q ≡ r
  seat_once q r (Some x) (Some y) e f same = same_variable q r same
  seat_once q r (Some x) None e f same = absurd (variable_no_procedure q (r - length Xs) same)
  seat_once q r None (Some y) e f same = absurd (variable_no_procedure r (q - length Xs) (sym same))
  seat_once q r None None e f same =
      let le = past_end Xs q e in
      let le1 = past_end Xs r f in
      let is = same_procedure (q - length Xs) (r - length Xs) same in
      omega (le, le1, is, arith)

  -- the seat of a variable, and that of a function's value
  pub seat_of_variable : (q : ℕ) (x : Located) → slice_get Xs q ≡ Some x → seat q ≡ (x.unit, OfVariable q)
  seat_of_variable q x e = ap (seat_by q) e

  pub seat_of_value : (n : ℕ) → seat (length Xs + n) ≡ (n, OfProcedure n)
  seat_of_value n =
      let is : length Xs + n - length Xs ≡ n = omega arith in
      ap (seat_by (length Xs + n)) (slice_get_past Xs (length Xs + n) (omega arith)) ∙ ap {B = ℕ × Name} (λ m. (m, OfProcedure m)) is

  module _ (l : Linkage) where
    abbrev pub cell : ℕ → ℕ
    cell q = l.number (seat q).0 (text_of names (seat q).1) 0

    pub cell_of_variable : (q : ℕ) (x : Located) → slice_get Xs q ≡ Some x → cell q ≡ l.number x.unit (names.home q) 0
    cell_of_variable q x e = ap (λ (s : ℕ × Name). l.number s.0 (text_of names s.1) 0) (seat_of_variable q x e)

    pub cell_of_value : (n : ℕ) → cell (length Xs + n) ≡ l.number n (names.callee n) 0
    cell_of_value n = ap (λ (s : ℕ × Name). l.number s.0 (text_of names s.1) 0) (seat_of_value n)

    module _ (are : AreNames p names) (ready : AreReady p names) (linked : IsLinkage (Rs p names) l) where
      -- two places have two cells
      pub one_cell : (q r : ℕ) → is_place q ≡ true → is_place r ≡ true → cell q ≡ cell r → q ≡ r
      one_cell q r h k e =
          let a = and_parts (is_unit p (seat q).0) (is_seated p names (seat q).0 (seat q).1) h in
          let b = and_parts (is_unit p (seat r).0) (is_seated p names (seat r).0 (seat r).1) k in
          seat_once q r (slice_get Xs q) (slice_get Xs r) refl refl (seats_apart p names are ready l linked (seat q).0 (seat r).0 (seat q).1 (seat r).1 a.0 b.0 a.1 b.1 e).1

      -- nothing is there at first
      pub empty_cells : (n : ℕ) → l.first n ≡ Nothing
      empty_cells n = linked.initial.empty n (λ f c. absurd (none_there f (subst (λ fs. Contains fs f) (no_presets p names ready) c)))
        where
          none_there : (f : Preset) → Contains [] f → ⊥
          none_there f c = omega (arith, c.1)
