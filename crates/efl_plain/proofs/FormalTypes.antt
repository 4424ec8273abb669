-- The formals of a procedure that is called are scalars of the types of its signature.
use Rattle.std.proofs.Common.{◌≡◌, ℕ, suc, ◌+◌, Bool, true, false, cond, List, [], ◌∷◌, map, Option, None, Some, refl, sym, ap, ◌∙◌, subst, arith, if◌then◌else◌}
use Rattle.std.specs.Prelude.{⊤, find, option_map, unwrap_or}
use Rattle.std.specs.List.{slice_get, cons_option}
use Rattle.std.specs.Str.{bytes_eq}
use Rattle.std.proofs.lemmas.Option.{none-some}
use Rattle.rule_table.specs.Words.{is_some_and}
use Rattle.ground.specs.declared.value.Kind.{Kind}
use Rattle.efl_tree.specs.Syntax.{Text, EflProcedure, EflProgram}
use Rattle.efl_scope.specs.DataTypes as types
use Rattle.efl_scope.specs.DataTypes.{DataType}
use Rattle.efl_scope.specs.Scopes.{variable_if, meaning, outer}
use Rattle.efl_scope.specs.Parts.{around_unit}
use Rattle.efl_scope.specs.ScopeRules.{holds}
use Rattle.efl_scope.specs.Marks.{program_variables, meant_by, number_of}
use Rattle.efl_types.specs.Signatures.{Arity, Signature, type_if, formal_types, signed, signature_if, signatures, known, known_if, Callee, Procedure, callee_by, callee, applied}
use Rattle.efl_types.specs.Types.{calls}
use Rattle.efl_types.specs.Whole as whole
use Rattle.efl_typed.specs.Typing.{Context, called}
use Rattle.efl_typed.specs.Linking.{formals_in}
use Rattle.efl_typed.proofs.Each.{Each}
use Rattle.efl_lowered.specs.Facts.{has_scalar, formals, IsOverScalars}
use Rattle.efl_lowered.proofs.TypedBlocks.{Lists, formal_listed}
use Rattle.efl_lowered.proofs.TypedChecks.{each_at}
use Rattle.efl_lowered.proofs.TypedVariables.{own_parts, IsNumberedScalar, parts_numbered}
use Rattle.efl_plain.proofs.Formals.{formal_means, held_at}

-- ---- the procedure that a name calls ----

-- the formals of a signature are those of the procedure with this number
abbrev IsOf : List EflProcedure → Option Signature → Option ℕ → Type 0
IsOf us None m = ⊤
IsOf us (Some s) None = ⊤
IsOf us (Some s) (Some m) = (u : EflProcedure) × (slice_get us m ≡ Some u) × (formal_types u ≡ s.formals)

one_before : (w : EflProcedure) (us : List EflProcedure) (o : Option Signature) (m : Option ℕ) → IsOf us o m → IsOf (w ∷ us) o (option_map (λ n. n + 1) m)
one_before w us None m h = tt
one_before w us (Some s) None h = tt
one_before w us (Some s) (Some m) h = let e : m + 1 ≡ suc m = omega arith in (h.0, ap (slice_get (w ∷ us)) e ∙ h.1, h.2)

abbrev sought : Text → List Signature → Option Signature
sought x ss = find (λ s. bytes_eq x s.name) ss

first_is : (x : Text) (us : List EflProcedure) → IsOf us (sought x (signatures us)) (whole.number_of us x)
first_is x [] = tt
first_is x (w ∷ us) = by_name w.name (first_is x us)
  where
    by_test : (y : Text) (b : Bool) → IsOf us (sought x (signatures us)) (whole.number_of us x) →
        IsOf (w ∷ us) (cond b (Some (signed w y)) (sought x (signatures us))) (cond b (Some 0) (option_map (λ n. n + 1) (whole.number_of us x)))
    by_test y true h = (w, refl, refl)
    by_test y false h = one_before w us (sought x (signatures us)) (whole.number_of us x) h

    by_name : (o : Option Text) → IsOf us (sought x (signatures us)) (whole.number_of us x) →
        IsOf (w ∷ us) (sought x (cons_option (signature_if w o) (signatures us))) (cond (is_some_and (bytes_eq x) o) (Some 0) (option_map (λ n. n + 1) (whole.number_of us x)))
    by_name None h = one_before w us (sought x (signatures us)) (whole.number_of us x) h
    by_name (Some y) h = by_test y (bytes_eq x y) h

abbrev signature_in : Callee → Option Signature
signature_in (Procedure s) = Some s
signature_in _ = None

none_known : (a : Option Arity) → signature_in (known_if a) ≡ None
none_known None = refl
none_known (Some a) = refl

called_signature : (x : Text) (o : Option Signature) (s : Signature) → callee_by x o ≡ Procedure s → o ≡ Some s
called_signature x None s e = absurd (none-some s (sym (none_known (known x)) ∙ ap signature_in e))
called_signature x (Some t) s e = ap signature_in e

chosen : (b : Bool) (o : Option ℕ) (m : ℕ) → (if b then o else None) ≡ Some m → o ≡ Some m
chosen true o m e = e
chosen false o m e = absurd (none-some m e)

-- ---- formals ----

module _ (p : EflProgram) where
  -- a variable of a procedure is a scalar of this type
  abbrev IsOfType : ℕ → DataType → ℕ → Type 0
  IsOfType m t v = (k : Kind) × (t ≡ types.Scalar k) × (has_scalar p m v k ≡ true)

  -- one by one, and there are as many of both
  abbrev pub HaveTypes : ℕ → List DataType → List ℕ → Type 0
  HaveTypes m [] [] = ⊤
  HaveTypes m [] (v ∷ vs) = ⊥
  HaveTypes m (t ∷ ts) [] = ⊥
  HaveTypes m (t ∷ ts) (v ∷ vs) = IsOfType m t v × HaveTypes m ts vs

  -- the formals of each procedure that a name calls have the types of its signature
  abbrev pub KnowsFormals : Context → Type 0
  KnowsFormals c = (x : Text) (s : Signature) (m : ℕ) → callee c.names x ≡ Procedure s → called c x ≡ Some m → HaveTypes m s.formals (formals p m)

  all_typed : (m : ℕ) (f : Text → DataType) (g : Text → ℕ) (xs : List Text) → Each (λ x. IsOfType m (f x) (g x)) xs → HaveTypes m (map f xs) (map g xs)
  all_typed m f g [] h = tt
  all_typed m f g (x ∷ xs) h = (h.0, all_typed m f g xs h.1)

  module _ (over : IsOverScalars p) where
    module _ (m : ℕ) (u : EflProcedure) (here : slice_get p.procedures m ≡ Some u) where
      abbrev type_at : Text → DataType
      type_at x = type_if (variable_if (meaning (outer u) x))

      abbrev number_at : Text → ℕ
      number_at x = number_of (program_variables p) m (meant_by [] x (meaning (outer u) x))

      formal_typed : (x : Text) → holds u.formals x ≡ true → IsOfType m (type_at x) (number_at x)
      formal_typed x h =
          let us = p.procedures in
          let P = IsNumberedScalar p over in
          let w = formal_means u x h in
          let it = formal_listed us P m (around_unit m u) u.place u.result u.formals (own_parts (Lists us P) us m u here (parts_numbered p over)).0 x w.0 w.1 h in
          (it.0, ap (λ o. type_if (variable_if o)) w.1 ∙ it.1, ap (λ o. has_scalar p m (number_of (program_variables p) m (meant_by [] x o)) it.0) w.1 ∙ it.2)

      formals_typed : HaveTypes m (formal_types u) (formals p m)
      formals_typed =
          let same : formals p m ≡ formals_in (program_variables p) m u = ap (λ o. unwrap_or (option_map (formals_in (program_variables p) m) o) []) here in
          subst (HaveTypes m (formal_types u)) (sym same) (all_typed m type_at number_at u.formals (each_at (λ x. IsOfType m (type_at x) (number_at x)) u.formals (λ i x e. formal_typed x (held_at u.formals i x e))))

    by_first : (s : Signature) (m : ℕ) → IsOf p.procedures (Some s) (Some m) → HaveTypes m s.formals (formals p m)
    by_first s m h = subst (λ ts. HaveTypes m ts (formals p m)) h.2 (formals_typed m h.0 h.1)

    pub knows_formals : (c : Context) → c.procedures ≡ p.procedures → c.names.units ≡ signatures p.procedures → KnowsFormals c
    knows_formals c here all x s m e f =
        let signature : sought x (signatures p.procedures) ≡ Some s = ap (sought x) (sym all) ∙ called_signature x (sought x c.names.units) s e in
        let number : whole.number_of p.procedures x ≡ Some m = ap (λ us. whole.number_of us x) (sym here) ∙ chosen (calls (applied c.names x)) (whole.number_of c.procedures x) m f in
        by_first s m (subst (λ o. IsOf p.procedures o (Some m)) signature (subst (IsOf p.procedures (sought x (signatures p.procedures))) number (first_is x p.procedures)))
