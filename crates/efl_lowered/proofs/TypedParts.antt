-- The parts of a procedure in a program over scalars that the checks accept: they break no rule of types, and the names that they use
-- are fine.
use Rattle.std.proofs.Common.{◌≡◌, ℕ, Bool, true, false, true≢false, List, [], ◌∷◌, map, Option, None, Some, refl, sym, ap, ◌∙◌, subst}
use Rattle.std.specs.Prelude.{◌||◌, filter_map, flat_map, option_map, unwrap_or, nat_lt, length, if◌then◌else◌}
use Rattle.std.specs.List.{list_any, slice_get}
use Rattle.rule_table.specs.Words.{is_some_and}
use Rattle.ground.specs.declared.place.Place.{Place}
use Rattle.ground.specs.declared.value.Kind.{Kind}
use Rattle.efl_tree.specs.Syntax.{Text, EflDeclKind, Implicit, Initial, Variables, Area, Structure, EflProcedure, EflProgram}
use Rattle.efl_scope.specs.DataTypes as types
use Rattle.efl_scope.specs.DataTypes.{DataType}
use Rattle.efl_scope.specs.Scopes.{Variable, Meaning, IsVariable, IsStructure, members_if, meaning, implicit_type, implied_of, own_variables, undeclared}
use Rattle.efl_scope.specs.Parts.{Form, Header, Declares, Groups, States, Until, Chooses, Around, Part, part, around_unit, parts_by, program_parts}
use Rattle.efl_scope.specs.ScopeRules.{is_structure, misuses}
use Rattle.efl_scope.specs.FirstFault as scope_faults
use Rattle.efl_scope.specs.Uses.{Use, Named, Applied, Laid, uses_at, uses_in}
use Rattle.efl_scope.specs.Marks.{Located, undeclared_by, met_by, implied_at, program_variables, meant_by, number_of}
use Rattle.efl_types.specs.declared.rule.TypeRule.TheVariants.{TypeClash, WrongCount}
use Rattle.efl_types.specs.Signatures.{Nothing, Unknown, result_of, Calls, applied_by, applied_as, type_by}
use Rattle.efl_types.specs.Types.{calls as is_call}
use Rattle.efl_types.specs.Expressions.{when}
use Rattle.efl_types.specs.Declarations.{formal_faults, is_shape}
use Rattle.efl_types.specs.TypeRules as type_faults
use Rattle.efl_types.specs.TypeRules.{part_faults, presets_of, of_unit}
use Rattle.efl_types.specs.Whole as whole
use Rattle.efl_types.specs.Whole.{called_by, called_in}
use Rattle.efl_typed.specs.Typing.{Context, called, base_names}
use Rattle.efl_typed.proofs.Each.{Each, OfAny, each_map, each_filtered}
use Rattle.efl_lowered.specs.Lowering.{calls}
use Rattle.efl_lowered.specs.Facts.{has_scalar, uses_function, uses_procedure, IsOverScalars}
use Rattle.efl_lowered.specs.Grammatical.{IsGrammatical, operators_in}
use Rattle.efl_lowered.proofs.TypedRules.{none_of_three, fails}
use Rattle.efl_lowered.proofs.TypedExpressions.{Keeps, Fine}
use Rattle.efl_lowered.proofs.TypedStatements.{at, part_typed, IsTypedPart}
use Rattle.efl_lowered.proofs.TypedChecks.{each_at, each_fact, each_both, no_faults, IsScoped, no_misuses}
use Rattle.efl_lowered.proofs.TypedCalls.{known_result, CallsKnown, calls_known, callee_fits}
use Rattle.efl_lowered.proofs.TypedBlocks.{Lists}
use Rattle.efl_lowered.proofs.TypedWalk.{FactsBy, Facts, ArePresent}
use Rattle.efl_lowered.proofs.TypedVariables.{own_parts, IsNumberedScalar, parts_numbered, numbered_facts}

each_none : {X : Type 0} (test : X → Bool) (xs : List X) → list_any test xs ≡ false → Each (λ x. test x ≡ false) xs
each_none test [] h = tt
each_none test (x ∷ xs) h = split (test x) h (each_none test xs)
  where
    split : (b : Bool) → (b || list_any test xs) ≡ false → (list_any test xs ≡ false → Each (λ y. test y ≡ false) xs) → (b ≡ false) × Each (λ y. test y ≡ false) xs
    split false g later = (refl, later g)
    split true g later = absurd (true≢false g)

module _ (p : EflProgram) (over : IsOverScalars p) (shaped : IsGrammatical p) where
  abbrev us : List EflProcedure
  us = p.procedures

  abbrev P : Located → Type 0
  P = IsNumberedScalar p over

  abbrev pub M : ℕ → ℕ → Kind → Type 0
  M n v k = has_scalar p n v k ≡ true

  abbrev pub F : ℕ → ℕ → Kind → ℕ → Type 0
  F n m k c = uses_function p n m k c ≡ true

  abbrev pub C : ℕ → ℕ → ℕ → Type 0
  C n m c = uses_procedure p n m c ≡ true

  module _ (scopes : scope_faults.first_fault p ≡ None) (types_hold : type_faults.first_fault p ≡ None) where
    -- ---- headers ----

    abbrev Checked : Part → Type 0
    Checked v = IsScoped v × (part_faults us v ≡ [])

    checked : Each Checked (program_parts p)
    checked = each_both IsScoped (λ v. part_faults us v ≡ []) (program_parts p) (no_misuses p scopes) (no_faults p types_hold)

    pub results : (n : ℕ) (u : EflProcedure) → slice_get us n ≡ Some u → result_of u.result ≡ Unknown → ⊥
    results n u e =
        let head = (own_parts Checked us n u e checked).0 in
        let scoped = head.0 in
        let hs = none_of_three (flat_map formal_faults (undeclared (implied_of u) (own_variables u) u.formals)) (when (is_shape u.result) TypeClash) (when (nat_lt 32 (length u.formals)) WrongCount) (part_typed us (program_variables p) n u e (part (around_unit n u) u.place (Header u.result u.formals)) refl head.1) in
        known_result u.result scoped.types (fails (is_shape u.result) TypeClash hs.1)

    -- ---- names ----

    module _ (a : Around) (u : EflProcedure) (here : slice_get us a.unit ≡ Some u) (pre : (y : Text) (v : Variable) → meaning a.blocks y ≡ Some (IsVariable v) → P (record { unit = a.unit; variable = v })) where
      abbrev c : Context
      c = at us (program_variables p) a.unit u here a

      -- a name by what it means
      abbrev NamedBy : Text → Option Meaning → Type 0
      NamedBy x o =
          (k : Kind) × (type_by (implicit_type (implied_of u) x) o ≡ types.Scalar k) × ((meant_by (implied_of u) x o).kind ≡ types.Scalar k)
          × (has_scalar p a.unit (number_of (program_variables p) a.unit (meant_by (implied_of u) x o)) k ≡ true)

      -- an undeclared variable that is met
      abbrev MetBy : Text → Option Meaning → Type 0
      MetBy x o = OfAny (λ v. P (record { unit = a.unit; variable = v })) (undeclared_by (implied_of u) x o)

      abbrev MisusedBy : Option Meaning → Bool
      MisusedBy o = is_some_and (λ ms. true) (members_if o)

      named_fine : (x : Text) (o : Option Meaning) → meaning a.blocks x ≡ o → MisusedBy o ≡ false → MetBy x o → NamedBy x o
      named_fine x None e h g = (g.0, g.1, g.1, g.2)
      named_fine x (Some (IsVariable v)) e h g = let w = pre x v e in (w.0, w.1, w.1, w.2)
      named_fine x (Some (IsStructure ms)) e h g = absurd (true≢false h)

      applied_fine : (x : Text) (o : Option Meaning) → meaning a.blocks x ≡ o → (t : DataType) × (applied_by o ≡ Calls t)
      applied_fine x None e = (types.NoType, refl)
      applied_fine x (Some (IsVariable v)) e = let w = pre x v e in (types.Scalar w.0, ap applied_as w.1)
      applied_fine x (Some (IsStructure ms)) e = (types.NoType, refl)

      -- what is known of a use
      abbrev Known : Use → Type 0
      Known w =
          ((misuses (is_structure a.blocks) w ≡ false) × OfAny (λ m. calls p a.unit m ≡ true) (called_by us c.names w))
          × (OfAny (λ v. P (record { unit = a.unit; variable = v })) (met_by (implied_of u) a.blocks w) × ((x : Text) → w ≡ Laid x → ⊥))

      use_fine : (w : Use) → Known w → Fine (M a.unit) (F a.unit) (C a.unit) c w
      use_fine (Named x) h = named_fine x (meaning a.blocks x) refl h.0.0 h.1.0
      use_fine (Applied x) h =
          let t = applied_fine x (meaning a.blocks x) refl in
          let same : called c x ≡ whole.number_of us x = ap (λ q. if (is_call q) then (whole.number_of us x) else None) t.1 in
          (t.0, t.1, callee_fits p results a.unit c refl refl x same h.0.1)
      use_fine (Laid x) h = absurd (h.1.1 x refl)

      uses_fine : (ws : List Use) → Each Known ws → Each (Fine (M a.unit) (F a.unit) (C a.unit) c) ws
      uses_fine ws h = each_fact Known (Fine (M a.unit) (F a.unit) (C a.unit) c) ws use_fine h

      -- all of it, as the checks give it
      all_known : (ws : List Use) → list_any (misuses (is_structure a.blocks)) ws ≡ false → Each (λ m. calls p a.unit m ≡ true) (filter_map (called_by us c.names) ws) →
          Each P (map (λ x. record { unit = a.unit; variable = x }) (filter_map (met_by (implied_at us a.unit) a.blocks) ws)) → Each (λ w. (x : Text) → w ≡ Laid x → ⊥) ws → Each Known ws
      all_known ws h g l o =
          let Q = λ (v : Variable). P (record { unit = a.unit; variable = v }) in
          let rules : implied_at us a.unit ≡ implied_of u = ap (λ q. unwrap_or (option_map implied_of q) []) here in
          let met = each_filtered Q (met_by (implied_at us a.unit) a.blocks) ws (each_map P (λ x. record { unit = a.unit; variable = x }) (filter_map (met_by (implied_at us a.unit) a.blocks) ws) l) in
          let met1 = subst (λ r. Each (λ w. OfAny Q (met_by r a.blocks w)) ws) rules met in
          let Misused = λ (w : Use). misuses (is_structure a.blocks) w ≡ false in
          let Called = λ (w : Use). OfAny (λ m. calls p a.unit m ≡ true) (called_by us c.names w) in
          let Met = λ (w : Use). OfAny Q (met_by (implied_of u) a.blocks w) in
          let Bare = λ (w : Use). (x : Text) → w ≡ Laid x → ⊥ in
          each_both (λ w. Misused w × Called w) (λ w. Met w × Bare w) ws
          (each_both Misused Called ws (each_none (misuses (is_structure a.blocks)) ws h) (each_filtered (λ m. calls p a.unit m ≡ true) (called_by us c.names) ws g)) (each_both Met Bare ws met1 o)

    -- ---- parts ----

    -- what the checks, and the shape of the program, give of a part
    pub record IsSupplied (v : Part) : Type 0 where
      pub scoped : IsScoped v
      pub faults : part_faults us v ≡ []
      pub calls_known : CallsKnown p v
      pub lists : Lists us P v
      pub no_overlay : Each (λ w. (x : Text) → w ≡ Laid x → ⊥) (uses_in v.form)
      pub keeps : Each Keeps (operators_in v.form)
      pub no_initial : presets_of v.form ≡ []

    abbrev Shape : Part → Type 0
    Shape v = (Each (λ w. (x : Text) → w ≡ Laid x → ⊥) (uses_in v.form) × Each Keeps (operators_in v.form)) × (presets_of v.form ≡ [])

    shapes : Each Shape (program_parts p)
    shapes =
        each_at Shape (program_parts p)
        (λ i v e. ((each_at (λ w. (x : Text) → w ≡ Laid x → ⊥) (uses_in v.form) (λ j w f x g. over.no_overlay i j v x e (f ∙ ap Some g)), each_at Keeps (operators_in v.form) (λ j o f. shaped.operators i j v o e f)), over.no_initial i v e))

    pub supplied : Each IsSupplied (program_parts p)
    supplied =
        each_fact (λ v. (Checked v × (CallsKnown p v × Lists us P v)) × Shape v) IsSupplied (program_parts p)
        (λ v h. record { scoped = h.0.0.0; faults = h.0.0.1; calls_known = h.0.1.0; lists = h.0.1.1; no_overlay = h.1.0.0; keeps = h.1.0.1; no_initial = h.1.1 })
        (each_both (λ v. Checked v × (CallsKnown p v × Lists us P v)) Shape (program_parts p)
        (each_both Checked (λ v. CallsKnown p v × Lists us P v) (program_parts p) checked (each_both (CallsKnown p) (Lists us P) (program_parts p) (calls_known p) (parts_numbered p over))) shapes)

    module _ (n : ℕ) (u : EflProcedure) (here : slice_get us n ≡ Some u) where
      abbrev FineIn : ℕ → Around → List Use → Type 0
      FineIn m a ws = Each (Fine (M m) (F m) (C m) (at us (program_variables p) n u here a)) ws

      -- a statement, or the condition of `until`
      stated : (a : Around) (ws : List Use) → a.unit ≡ n → ArePresent us n u P a.blocks → list_any (misuses (is_structure a.blocks)) ws ≡ false →
          Each (λ m. calls p a.unit m ≡ true) (unwrap_or (option_map (λ w. filter_map (called_by us (record (base_names us w) { blocks = a.blocks })) ws) (slice_get us a.unit)) []) →
          Each P (map (λ x. record { unit = a.unit; variable = x }) (filter_map (met_by (implied_at us a.unit) a.blocks) ws)) → Each (λ w. (x : Text) → w ≡ Laid x → ⊥) ws → FineIn n a ws
      stated a ws same pre h g l o =
          let there : slice_get us a.unit ≡ Some u = ap (slice_get us) same ∙ here in
          let pre1 = subst (λ m. (y : Text) (v : Variable) → meaning a.blocks y ≡ Some (IsVariable v) → P (record { unit = m; variable = v })) (sym same) pre in
          let g1 = subst (λ q. Each (λ m. calls p a.unit m ≡ true) (unwrap_or (option_map (λ w. filter_map (called_by us (record (base_names us w) { blocks = a.blocks })) ws) q) [])) there g in
          subst (λ m. FineIn m a ws) same (uses_fine a u there pre1 ws (all_known a u there pre1 ws h g1 l o))

      declared_fine : (a : Around) (before : List Text) (k : EflDeclKind) → presets_of (Declares before k) ≡ [] → FineIn n a (uses_in (Declares before k))
      declared_fine a before (Implicit rs t) h = tt
      declared_fine a before (Initial ps) h = subst (λ qs. FineIn n a (flat_map (λ q. uses_at q.place) qs)) (sym h) tt
      declared_fine a before (Variables q t vs) h = tt
      declared_fine a before (Area q gs) h = tt
      declared_fine a before (Structure x gs) h = tt

      part_fine : (a : Around) (q : Place) (f : Form) → a.unit ≡ n → FactsBy us n u P a f → IsSupplied (part a q f) → FineIn n a (uses_in f)
      part_fine a q (Header o fs) same h s = tt
      part_fine a q (Declares before k) same h s = declared_fine a before k s.no_initial
      part_fine a q (Groups before t vs) same h s = tt
      part_fine a q (States ls k) same h s = stated a (uses_in (States ls k)) same h.1 s.scoped.uses s.calls_known s.lists s.no_overlay
      part_fine a q (Until e) same h s = stated a (uses_in (Until e)) same h.1 s.scoped.uses s.calls_known s.lists s.no_overlay
      part_fine a q (Chooses zs fallback before seen) same h s = tt

      module _ (room : ℕ) (gives : Type 0) (giving : (result_of u.result ≡ Nothing → ⊥) → gives) where
        -- each part of the procedure
        pub parts_typed : Each (IsTypedPart us (program_variables p) n u here (M n) (F n) (C n) room gives giving) (parts_by n u)
        parts_typed =
            each_fact (λ v. Facts us n u P v × IsSupplied v) (IsTypedPart us (program_variables p) n u here (M n) (F n) (C n) room gives giving) (parts_by n u)
            (λ v h. let s = h.1 in record { faults = s.faults; fine = part_fine v.around v.place v.form h.0.0 h.0.1 s; keeps = s.keeps })
            (each_both (Facts us n u P) IsSupplied (parts_by n u) (numbered_facts p over n u here) (own_parts IsSupplied us n u here supplied))
