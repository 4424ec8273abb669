-- The names that are chosen are short: those of the source that are kept have six characters at most, and so have all that are made. And
-- each procedure that one calls is another one, and has a name.
use Rattle.std.proofs.Common.{◌≡◌, ℕ, ◌+◌, ◌*◌, ◌/◌, ◌%◌, Bool, true, false, true≢false, List, [], ◌∷◌, length, Option, None, Some, inl, inr, refl, sym, ap, ◌∙◌, subst, arith, if◌then◌else◌, ◌||◌, ◌&&◌}
use Rattle.std.specs.Prelude.{nat_eq, nat_le, is_some, filter_map, flat_map, option_map, unwrap_or}
use Rattle.std.specs.List.{list_any, slice_get, cons_option}
use Rattle.std.specs.Str.{bytes_eq}
use Rattle.std.proofs.lemmas.Bool.{and_from, eqb-true, leb-true, le-leb, le-ltb}
use Rattle.std.proofs.lemmas.List.Folds.{list_any-append}
use Rattle.rule_table.specs.Words.{is_some_and}
use Rattle.rule_table.proofs.WordLemmas.{list_any_map}
use Rattle.ground.specs.declared.value.Kind.{Kind}
use Rattle.ground.specs.declared.value.Kind.TheVariants.{Integer, Logical}
use Rattle.f66_tree.specs.Syntax.{Text}
use Rattle.f66_tree.specs.Evaluation.{Intrinsic, Iabs, Mod, Isign, Idim, Max0, Min0}
use Rattle.f66_names.specs.Shapes.{is_name, is_capital, is_digit}
use Rattle.plain_units.specs.Known.{IsShort}
use Rattle.call_cycles.specs.declared.edge.Edge.{Edge}
use Rattle.efl_tree.specs.Syntax.{EflProcedure, EflProgram}
use Rattle.efl_scope.specs.Parts.{Part, program_parts}
use Rattle.efl_scope.specs.Uses.{Use, Named, Applied, Laid, uses_in}
use Rattle.efl_scope.specs.FirstFault.{first_fault}
use Rattle.efl_scope.specs.Marks.{Located, program_variables}
use Rattle.efl_types.specs.Signatures.{Names, applied}
use Rattle.efl_types.specs.Types as types
use Rattle.efl_types.specs.TypeRules.{names_of}
use Rattle.efl_types.specs.Whole.{number_of, called_by, called_in, calls_in, program_calls, TellsWhole}
use Rattle.efl_typed.proofs.FoundLemmas.{both, either}
use Rattle.efl_routes.specs.Expressions.{intrinsic_name}
use Rattle.efl_lowered.specs.Lowering.{stands_in, calls}
use Rattle.efl_lowered.specs.Facts.{is_unit, is_named, has_scalar}
use Rattle.efl_lowered.specs.Names.{Name, OfVariable, OfTemporary, OfProcedure, OfIntrinsic, text_of, has_name}
use Rattle.efl_lowered.proofs.Lists.{or_right, some_and, and_some, some_of}
use Rattle.efl_lowered.proofs.TypedVariables.{placed}
use Rattle.efl_naming.specs.Choice.{made, is_kept, keeps_name, variable_name, name_or_made, procedure_name, home_name, callee_name, naming_of}
use Rattle.efl_naming.proofs.Numbers.{first_there}
use Rattle.efl_naming.proofs.Procedures.{callee_there}
use Rattle.efl_plain.specs.Names.{AreShort}
use Rattle.efl_plain.specs.Tree.{IsWrittenTree}
use Rattle.efl_plain.proofs.Formals.{formals_once}
use Rattle.efl_plain.proofs.Linked.{counts_told, not_itself}

-- ---- texts ----

abbrev digit : ℕ → ℕ → ℕ
digit n unit = 48 + n / unit % 10

digit_stands : (n unit : ℕ) → (is_capital (digit n unit) || is_digit (digit n unit)) ≡ true
digit_stands n unit =
    let d = digit n unit in or_right (is_capital d) (is_digit d) (and_from (nat_le 48 d) (nat_le d 57) (le-leb 48 d (omega arith)) (le-leb d 57 (omega arith)))

made_short : (letter n : ℕ) → is_capital letter ≡ true → IsShort (made letter n)
made_short letter n capital = record {
  name = and_from (is_capital letter) _ capital (and_from _ _ (digit_stands n 10000) (and_from _ _ (digit_stands n 1000) (and_from _ _ (digit_stands n 100) (and_from _ _ (digit_stands n 10) (and_from _ _ (digit_stands n 1) refl)))));
  short = refl;
}

kept_short : (x : Text) → is_name x ≡ true → is_kept x ≡ true → IsShort x
kept_short x name h = record { name = name; short = le-ltb 6 (length x) (leb-true (length x) 6 (both (nat_le (length x) 6) _ h).0) }

-- a name of the source that is kept, or else one that is made
chosen_short : (b : Bool) (x : Text) (letter n : ℕ) → is_capital letter ≡ true → is_name x ≡ true → (b ≡ true → is_kept x ≡ true) → IsShort (if b then x else made letter n)
chosen_short true x letter n capital name kept = kept_short x name (kept refl)
chosen_short false x letter n capital name kept = made_short letter n capital

intrinsic_short : (g : Intrinsic) → IsShort (intrinsic_name g)
intrinsic_short Iabs = record { name = refl; short = refl }
intrinsic_short Mod = record { name = refl; short = refl }
intrinsic_short Isign = record { name = refl; short = refl }
intrinsic_short Idim = record { name = refl; short = refl }
intrinsic_short Max0 = record { name = refl; short = refl }
intrinsic_short Min0 = record { name = refl; short = refl }

-- ---- the names of a program ----

module _ (p : EflProgram) (tree : IsWrittenTree p) where
  variable_short : (v : ℕ) (x : Located) → slice_get (program_variables p) v ≡ Some x → IsShort (home_name p v)
  variable_short v x e =
      let y = x.variable.name in
      let kept = λ (h : keeps_name p x ≡ true). (both (is_kept y) _ (both (bytes_eq x.variable.home []) _ h).1).0 in
      subst IsShort (sym (ap (λ o. unwrap_or (option_map (variable_name p v) o) []) e)) (chosen_short (keeps_name p x) y 89 v refl (tree.variables v x e) kept)

  procedure_short : (m : ℕ) (u : EflProcedure) → slice_get p.procedures m ≡ Some u → IsShort (callee_name p m)
  procedure_short m u e = subst IsShort (sym (ap (λ o. unwrap_or (option_map (procedure_name m) o) []) e)) (by_name u.name refl)
    where
      by_name : (o : Option Text) → u.name ≡ o → IsShort (name_or_made m o)
      by_name None g = made_short 88 m refl
      by_name (Some x) g = chosen_short (is_kept x) x 88 m refl (tree.procedures m u x e g) (λ h. h)

  name_short : (n : ℕ) (a : Name) → is_unit p n ≡ true → has_name p (naming_of p) n a ≡ true → IsShort (text_of (naming_of p) a)
  name_short n (OfVariable v) is h = elim (either (has_scalar p n v Integer) (has_scalar p n v Logical) h) [ inl g ↦ of_kind Integer g | inr g ↦ of_kind Logical g ]
    where
      of_kind : (k : Kind) → has_scalar p n v k ≡ true → IsShort (home_name p v)
      of_kind k g = let w = some_and (stands_in n k) (slice_get (program_variables p) v) g in variable_short v w.0 w.1
  name_short n (OfTemporary Integer i) is h = made_short 90 (2 * i) refl
  name_short n (OfTemporary Logical i) is h = made_short 90 (2 * i + 1) refl
  name_short n (OfProcedure m) is h = elim (either (is_named p n && nat_eq m n) (calls p n m) h) [
    | inl g ↦ there (ap (λ j. is_some (slice_get p.procedures j)) (eqb-true m n (both (is_named p n) (nat_eq m n) g).1) ∙ is)
    | inr g ↦ there (callee_there p n m g)
  ]
    where
      there : is_some (slice_get p.procedures m) ≡ true → IsShort (callee_name p m)
      there g = let w = some_of (slice_get p.procedures m) g in procedure_short m w.0 w.1
  name_short n (OfIntrinsic g) is h = intrinsic_short g

-- ---- calls ----

any_joined : {X Y : Type 0} (test : Y → Bool) (f : X → List Y) (xs : List X) → list_any test (flat_map f xs) ≡ list_any (λ x. list_any test (f x)) xs
any_joined test f [] = refl
any_joined test f (x ∷ xs) = list_any-append test (f x) (flat_map f xs) ∙ ap (λ b. list_any test (f x) || b) (any_joined test f xs)

any_chosen : {X Y : Type 0} (test : Y → Bool) (f : X → Option Y) (xs : List X) → list_any test (filter_map f xs) ≡ list_any (λ x. is_some_and test (f x)) xs
any_chosen test f [] = refl
any_chosen test f (x ∷ xs) = by_value (f x) (any_chosen test f xs)
  where
    by_value : (o : Option _) → list_any test (filter_map f xs) ≡ list_any (λ y. is_some_and test (f y)) xs → list_any test (cons_option o (filter_map f xs)) ≡ (is_some_and test o || list_any (λ y. is_some_and test (f y)) xs)
    by_value None e = e
    by_value (Some y) e = ap (λ b. test y || b) e

has_some : (x : Text) (o : Option Text) → is_some_and (bytes_eq x) o ≡ true → is_some o ≡ true
has_some x None h = h
has_some x (Some y) h = refl

module _ (p : EflProgram) (n m : ℕ) where
  abbrev us : List EflProcedure
  us = p.procedures

  abbrev is_call : Edge → Bool
  is_call e = nat_eq e.from n && nat_eq e.to m

  abbrev edge_to : ℕ → ℕ → Edge
  edge_to from to = record { from = from; to = to }

  -- a use calls the first procedure of a name
  use_named : (from : ℕ) (names : Names) (w : Use) → is_some_and (λ to. is_call (edge_to from to)) (called_by us names w) ≡ true → is_named p m ≡ true
  use_named from names (Named x) h = absurd (true≢false (sym h))
  use_named from names (Laid x) h = absurd (true≢false (sym h))
  use_named from names (Applied x) h = by_test (types.calls (applied names x)) h
    where
      by_test : (b : Bool) → is_some_and (λ to. is_call (edge_to from to)) (if b then number_of us x else None) ≡ true → is_named p m ≡ true
      by_test true g =
          let to = some_and (λ i. is_call (edge_to from i)) (number_of us x) g in
          let u = first_there (λ u. is_some_and (bytes_eq x) u.name) us to.0 to.1 in
          let same : to.0 ≡ m = eqb-true to.0 m (both (nat_eq from n) (nat_eq to.0 m) to.2).1 in
          and_some (λ w. is_some w.name) (slice_get us m) u.0 (ap (slice_get us) (sym same) ∙ u.1) (has_some x u.0.name u.2)
      by_test false g = absurd (true≢false (sym g))

  abbrev test : Part → ℕ → Bool
  test v to = is_call (edge_to v.around.unit to)

  part_named : (v : Part) → list_any (test v) (called_in us v) ≡ true → is_named p m ≡ true
  part_named v h = by_unit (slice_get us v.around.unit) h
    where
      by_unit : (o : Option EflProcedure) → list_any (test v) (unwrap_or (option_map (λ u. filter_map (called_by us (names_of us u v)) (uses_in v.form)) o) []) ≡ true → is_named p m ≡ true
      by_unit None g = absurd (true≢false (sym g))
      by_unit (Some u) g =
          let of_use = called_by us (names_of us u v) in
          let w = placed (λ w. is_some_and (test v) (of_use w)) (uses_in v.form) (sym (any_chosen (test v) of_use (uses_in v.form)) ∙ g) in use_named v.around.unit (names_of us u v) w.1 w.4

  call_named : calls p n m ≡ true → is_named p m ≡ true
  call_named h =
      let w = placed (λ v. list_any (λ c. is_call c.edge) (calls_in us v)) (program_parts p) (sym (any_joined (λ c. is_call c.edge) (calls_in us) (program_parts p)) ∙ sym (list_any_map is_call (λ c. c.edge) (program_calls p)) ∙ h) in
      part_named w.1 (sym (list_any_map (λ c. is_call c.edge) (λ to. record { edge = record { from = w.1.around.unit; to = to }; place = w.1.place }) (called_in us w.1)) ∙ w.4)

pub short : (p : EflProgram) → first_fault p ≡ None → TellsWhole p None → IsWrittenTree p → AreShort p (naming_of p)
short p scopes whole tree = record { called = λ m n h. call_named p n m h; other = not_itself p (counts_told p whole).1; once = formals_once p scopes; short = name_short p tree }
