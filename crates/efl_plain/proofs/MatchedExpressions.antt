-- In an expression that breaks no rule of types each actual of a call has the type of its formal.
use Rattle.std.proofs.Common.{◌≡◌, ℕ, Bool, true, false, true≢false, List, [], ◌∷◌, length, Option, None, Some, refl, sym, ap, ◌∙◌, subst}
use Rattle.std.specs.Prelude.{⊤, not, ◌&&◌, nat_eq}
use Rattle.ground.specs.declared.value.Kind.{Kind}
use Rattle.ground.specs.declared.value.Kind.TheVariants as kinds
use Rattle.efl_tree.specs.Syntax as efl
use Rattle.efl_tree.specs.Syntax.{Text, EflExpr, EflExprs, EflPlace, Path, EflSteps, EflProgram}
use Rattle.efl_scope.specs.DataTypes as types
use Rattle.efl_scope.specs.DataTypes.{DataType}
use Rattle.efl_scope.specs.Uses.{Use, uses_of, uses_of_all, uses_at}
use Rattle.efl_types.specs.declared.rule.TypeRule.TheVariants.{TypeClash, WrongCount, MissingUnit}
use Rattle.efl_types.specs.Signatures.{Callee, Procedure, Intrinsic, Missing, callee, applied, many}
use Rattle.efl_types.specs.Types as text
use Rattle.efl_types.specs.Types.{named_type, calls, is_target_call, target_type, operand, fit_sides}
use Rattle.efl_types.specs.Expressions.{when, wants, takes_other, takes_actual, take_actuals, actual_faults, gives_value, call_faults, applied_faults, name_faults, empty_call_faults, wants_single, store_faults, store_wants, faults, faults_of_all, place_faults}
use Rattle.efl_program.specs.Typed.{Exprs}
use Rattle.efl_typed.specs.Typing.{Context, called, call_of, expr_of, exprs_of, value_at}
use Rattle.efl_typed.proofs.Each.{Each, each_left, each_right}
use Rattle.efl_typed.proofs.FoundLemmas.{both}
use Rattle.efl_lowered.specs.Facts.{has_scalar, formals}
use Rattle.efl_lowered.specs.Grammatical.{operators_of, operators_of_all, operators_at}
use Rattle.efl_lowered.proofs.TypedRules.{not_none, none_left, none_right, none_of_four, holds_by, same_kinds}
use Rattle.efl_lowered.proofs.TypedExpressions.{Keeps, FitsCallee, Fine, IsTyped, expr_typed}
use Rattle.efl_plain.specs.Matched.{ExprCalls, ExprsCall, AreOfTypes}
use Rattle.efl_plain.proofs.FormalTypes.{HaveTypes, KnowsFormals}
use Rattle.efl_plain.proofs.WrittenExpressions.{call_ends}

module _ (p : EflProgram) where
  -- the actuals have the types of the formals
  abbrev pub Fit : ℕ → Exprs → Type 0
  Fit m es = AreOfTypes p m es (formals p m)

  abbrev pub FitIfAny : Option ℕ → Exprs → Type 0
  FitIfAny None es = ⊤
  FitIfAny (Some m) es = Fit m es

  module _ (M : ℕ → Kind → Type 0) (F : ℕ → Kind → ℕ → Type 0) (C : ℕ → ℕ → Type 0) (c : Context) (known : KnowsFormals p c) where
    abbrev AreFine1 : List Use → Type 0
    AreFine1 us = Each (Fine M F C c) us

    abbrev IsTyped1 : EflExpr → Type 0
    IsTyped1 e = IsTyped M F C c (text.type_of c.names e) (expr_of c e)

    abbrev AreTyped : EflExprs → Type 0
    AreTyped efl.NoExpr = ⊤
    AreTyped (efl.AndExpr e es) = IsTyped1 e × AreTyped es

    -- ---- actuals ----

    all_typed : (es : EflExprs) → faults_of_all c.names es ≡ [] → AreFine1 (uses_of_all es) → Each Keeps (operators_of_all es) → AreTyped es
    all_typed efl.NoExpr h g o = tt
    all_typed (efl.AndExpr e es) h g o = (
      expr_typed M F C c e (none_left (faults c.names e) (faults_of_all c.names es) h) (each_left (Fine M F C c) (uses_of e) (uses_of_all es) g) (each_left Keeps (operators_of e) (operators_of_all es) o),
      all_typed es (none_right (faults c.names e) (faults_of_all c.names es) h) (each_right (Fine M F C c) (uses_of e) (uses_of_all es) g) (each_right Keeps (operators_of e) (operators_of_all es) o),
    )

    -- an actual that a formal takes has its type, where both are scalars
    taken : (t : DataType) (e : EflExpr) (k j : Kind) → t ≡ types.Scalar k → text.type_of c.names e ≡ types.Scalar j → takes_actual c.names t e ≡ true → j ≡ k
    taken t e k j f g h = same_kinds k j (subst (λ u. takes_other (types.Scalar k) u ≡ true) g (subst (λ s. takes_actual c.names s e ≡ true) f h))

    -- one by one
    actuals_fit : (m : ℕ) (es : EflExprs) (ts : List DataType) (vs : List ℕ) → HaveTypes p m ts vs → take_actuals c.names ts es ≡ true → AreTyped es → AreOfTypes p m (exprs_of c es) vs
    actuals_fit m efl.NoExpr ts vs h g w = tt
    actuals_fit m (efl.AndExpr e es) ts [] h g w = tt
    actuals_fit m (efl.AndExpr e es) [] (v ∷ vs) h g w = absurd h
    actuals_fit m (efl.AndExpr e es) (t ∷ ts) (v ∷ vs) h g w =
        let one = both (takes_actual c.names t e) (take_actuals c.names ts es) g in
        let it = h.0 in
        let first = w.0 in
        (ap (has_scalar p m v) (first.2 ∙ taken t e it.0 first.0 it.1 first.1 one.0) ∙ it.2, actuals_fit m es ts vs h.1 one.1 w.1)

    -- ---- calls ----

    -- what is called takes the actuals: an intrinsic function has no formals
    by_callee : (x : Text) (q : Callee) (o : Option ℕ) (es : EflExprs) → callee c.names x ≡ q → called c x ≡ o → FitsCallee M F C c q o → actual_faults c.names q es ≡ [] → AreTyped es → FitIfAny o (exprs_of c es)
    by_callee x q None es e f g h w = tt
    by_callee x (Procedure s) (Some m) es e f g h w =
        let count = when (not (nat_eq (length s.formals) (many es))) WrongCount in
        let all = take_actuals c.names s.formals es in
        actuals_fit m es s.formals (formals p m) (known x s m e f) (holds_by all TypeClash (none_right count (when (not all) TypeClash) h)) w
    by_callee x (Intrinsic a) (Some m) es e f g h w = absurd g
    by_callee x Missing (Some m) es e f g h w = absurd (not_none MissingUnit [] h)

    pub called_fits : (x : Text) (es : EflExprs) → FitsCallee M F C c (callee c.names x) (called c x) → actual_faults c.names (callee c.names x) es ≡ [] →
        faults_of_all c.names es ≡ [] → AreFine1 (uses_of_all es) → Each Keeps (operators_of_all es) → FitIfAny (called c x) (exprs_of c es)
    called_fits x es f h k g o = by_callee x (callee c.names x) (called c x) es refl refl f h (all_typed es k g o)

    of_call : (x : Text) (o : Option ℕ) (es : Exprs) → FitIfAny o es → ExprsCall Fit es → ExprCalls Fit (call_of c x o es)
    of_call x None es h k = k
    of_call x (Some m) es h k = (h, k)

    call_matched : (x : Text) (t : DataType) (es : EflExprs) → FitsCallee M F C c (callee c.names x) (called c x) → call_faults c.names x es t ≡ [] →
        faults_of_all c.names es ≡ [] → AreFine1 (uses_of_all es) → Each Keeps (operators_of_all es) → ExprsCall Fit (exprs_of c es) → ExprCalls Fit (call_of c x (called c x) (exprs_of c es))
    call_matched x t es f h k g o r =
        let q = callee c.names x in of_call x (called c x) (exprs_of c es) (called_fits x es f (none_right (when (not (gives_value t q)) TypeClash) (actual_faults c.names q es) h) k g o) r

    -- ---- expressions ----

    mutual
      pub expr_matched : (e : EflExpr) → faults c.names e ≡ [] → AreFine1 (uses_of e) → Each Keeps (operators_of e) → ExprCalls Fit (expr_of c e)
      expr_matched (efl.Int z) h g o = tt
      expr_matched (efl.Truth b) h g o = tt
      expr_matched (efl.At q) h g o = value_matched (is_target_call c.names q) q refl h g o
      expr_matched (efl.Call x es) h g o =
          let first = empty_call_faults c.names x es (applied c.names x) in
          let rest = none_right first (faults_of_all c.names es) h in
          let f = g.0 in
          call_matched x f.0 es f.2 (subst (λ q. empty_call_faults c.names x es q ≡ []) f.1 (none_left first (faults_of_all c.names es) h)) rest g.1 o (exprs_matched es rest g.1 o)
      expr_matched (efl.Group a) h g o = expr_matched a (none_right (wants_single c.names a) (faults c.names a) h) g o
      expr_matched (efl.Plus a) h g o = expr_matched a (none_right (wants c.names kinds.Integer a) (faults c.names a) h) g o
      expr_matched (efl.Minus a) h g o = expr_matched a (none_right (wants c.names kinds.Integer a) (faults c.names a) h) g o
      expr_matched (efl.Not a) h g o = expr_matched a (none_right (wants c.names kinds.Logical a) (faults c.names a) h) g o
      expr_matched (efl.Up q) h g o = tt
      expr_matched (efl.Down q) h g o = tt
      expr_matched (efl.Pair op a b) h g o =
          let hs = none_of_four (wants c.names (operand op) a) (wants c.names (operand op) b) (faults c.names a) (faults c.names b) h in (
            expr_matched a hs.2 (each_left (Fine M F C c) (uses_of a) (uses_of b) g) (each_left Keeps (operators_of a) (operators_of b) o),
            expr_matched b hs.3 (each_right (Fine M F C c) (uses_of a) (uses_of b) g) (each_right Keeps (operators_of a) (operators_of b) o),
          )
      expr_matched (efl.Assign None q a) h g o =
          let hs = none_of_four (store_faults c.names q) (when (not (fit_sides (target_type c.names q) (text.type_of c.names a))) TypeClash) (place_faults c.names q) (faults c.names a) h in
          expr_matched a hs.3 (each_right (Fine M F C c) (uses_at q) (uses_of a) g) (each_right Keeps (operators_at q) (operators_of a) o)
      expr_matched (efl.Assign (Some op) q a) h g o =
          let hs = none_of_four (store_wants c.names (operand op) q) (wants c.names (operand op) a) (place_faults c.names q) (faults c.names a) h in
          expr_matched a hs.3 (each_right (Fine M F C c) (uses_at q) (uses_of a) g) (each_right Keeps (operators_at q) (operators_of a) o.1)

      pub exprs_matched : (es : EflExprs) → faults_of_all c.names es ≡ [] → AreFine1 (uses_of_all es) → Each Keeps (operators_of_all es) → ExprsCall Fit (exprs_of c es)
      exprs_matched efl.NoExpr h g o = tt
      exprs_matched (efl.AndExpr e es) h g o = (
        expr_matched e (none_left (faults c.names e) (faults_of_all c.names es) h) (each_left (Fine M F C c) (uses_of e) (uses_of_all es) g) (each_left Keeps (operators_of e) (operators_of_all es) o),
        exprs_matched es (none_right (faults c.names e) (faults_of_all c.names es) h) (each_right (Fine M F C c) (uses_of e) (uses_of_all es) g) (each_right Keeps (operators_of e) (operators_of_all es) o),
      )

      value_matched : (b : Bool) (q : EflPlace) → is_target_call c.names q ≡ b → place_faults c.names q ≡ [] → AreFine1 (uses_at q) → Each Keeps (operators_at q) → ExprCalls Fit (value_at c b q)
      value_matched false (Path x es steps) b h g o = tt
      value_matched true (Path x efl.NoExpr steps) b h g o = absurd (true≢false (sym b))
      value_matched true (Path x (efl.AndExpr e es) efl.NoStep) b h g o =
          let all = efl.AndExpr e es in
          let hs = none_of_four (name_faults c.names x all) (when (calls (applied c.names x) && false) TypeClash) (faults_of_all c.names all) [] h in
          let f = g.0 in
          let g1 = each_left (Fine M F C c) (uses_of_all all) [] g.1 in
          let o1 = each_left Keeps (operators_of_all all) [] o in
          call_matched x f.0 all f.2 (subst (λ q. applied_faults c.names x all q ≡ []) f.1 hs.0) hs.2 g1 o1 (exprs_matched (efl.AndExpr e es) hs.2 g1 o1)
      value_matched true (Path x (efl.AndExpr e es) (efl.Member y fs steps)) b h g o = absurd (true≢false (sym (call_ends M F C c x e es (efl.Member y fs steps) g.0 h)))
      value_matched true (Path x (efl.AndExpr e es) (efl.Overlay y steps)) b h g o = absurd (true≢false (sym (call_ends M F C c x e es (efl.Overlay y steps) g.0 h)))
