-- An expression that breaks no rule of types is over scalars, if the names that it uses are: the typed one has the type of the text's.
use Rattle.std.proofs.Common.{◌≡◌, ℕ, Bool, true, false, true≢false, cond, List, [], length, Option, None, Some, refl, sym, ap, ◌∙◌, subst, arith}
use Rattle.std.specs.Prelude.{⊤, not, ◌&&◌, nat_eq}
use Rattle.std.proofs.lemmas.Bool.{eqb-true}
use Rattle.ground.specs.declared.value.Kind.{Kind}
use Rattle.ground.specs.declared.value.Kind.TheVariants as kinds
use Rattle.efl_tree.specs.declared.expression.EflOperator.{EflOperator}
use Rattle.efl_tree.specs.declared.expression.EflOperator.TheVariants as operators
use Rattle.efl_tree.specs.Syntax as efl
use Rattle.efl_tree.specs.Syntax.{Text, EflExpr, EflExprs, EflPlace, Path, EflSteps}
use Rattle.efl_scope.specs.DataTypes as types
use Rattle.efl_scope.specs.DataTypes.{DataType}
use Rattle.efl_scope.specs.Uses.{Use, Named, Applied, Laid, uses_of, uses_of_all, uses_at, uses_behind}
use Rattle.efl_types.specs.declared.rule.TypeRule.{TypeRule}
use Rattle.efl_types.specs.declared.rule.TypeRule.TheVariants.{TypeClash, WrongCount, MissingUnit, NotAssignable}
use Rattle.efl_types.specs.Signatures.{Result, Nothing, Gives, Unknown, Callee, Procedure, Intrinsic, Missing, callee, Calls, applied, gives_type, called_type, variable_type, many}
use Rattle.efl_types.specs.Types as text
use Rattle.efl_types.specs.Types.{named_type, place_type, applied_type, is_call, ends, calls, is_target_call, target_type, value_type, operand, outcome, fits, is_single, fit_sides}
use Rattle.efl_types.specs.Expressions.{when, wants, take_actuals, actual_faults, gives, gives_value, call_faults, applied_faults, name_faults, empty_call_faults, wants_single, store_faults, store_wants, faults, faults_of_all, place_faults, step_faults}
use Rattle.efl_program.specs.Typed as typed
use Rattle.efl_program.specs.Typed.{Expr, Exprs, Site}
use Rattle.efl_program.specs.Places.{sort_of, kind_of}
use Rattle.efl_typed.specs.Typing as typing
use Rattle.efl_typed.specs.Typing.{Context, op_of, numbered, variable_named, called, value_kind, call_of, expr_of, exprs_of, value_at, site_of}
use Rattle.efl_typed.proofs.Each.{Each, each_left, each_right}
use Rattle.efl_routes.specs.Expressions.{kind_by, type_of, count, FitSides, ScalarSite, Scalars, AllScalars}
use Rattle.efl_lowered.specs.Grammatical.{operators_of, operators_of_all, operators_at}
use Rattle.efl_lowered.proofs.TypedRules.{not_none, none_left, none_right, none_of_four, fails, holds_by, same_kinds}

-- ---- operators ----

given_alike : (o : EflOperator) → kind_by (op_of o) ≡ outcome o
given_alike operators.Add = refl
given_alike operators.Sub = refl
given_alike operators.Mul = refl
given_alike operators.Div = refl
given_alike operators.Power = refl
given_alike operators.Lt = refl
given_alike operators.Le = refl
given_alike operators.Eq = refl
given_alike operators.Ne = refl
given_alike operators.Ge = refl
given_alike operators.Gt = refl
given_alike operators.And = refl
given_alike operators.Or = refl
given_alike operators.AndThen = refl
given_alike operators.OrElse = refl

sides_fit : (o : EflOperator) (j k : Kind) → j ≡ operand o → k ≡ operand o → FitSides (op_of o) j k
sides_fit operators.Add j k h g = tt
sides_fit operators.Sub j k h g = tt
sides_fit operators.Mul j k h g = tt
sides_fit operators.Div j k h g = tt
sides_fit operators.Power j k h g = tt
sides_fit operators.Lt j k h g = tt
sides_fit operators.Le j k h g = tt
sides_fit operators.Eq j k h g = tt
sides_fit operators.Ne j k h g = tt
sides_fit operators.Ge j k h g = tt
sides_fit operators.Gt j k h g = tt
sides_fit operators.And j k h g = tt
sides_fit operators.Or j k h g = tt
sides_fit operators.AndThen j k h g = (h, g)
sides_fit operators.OrElse j k h g = (h, g)

-- what an assignment with it gives is of the type that it takes
abbrev pub Keeps : EflOperator → Type 0
Keeps o = operand o ≡ outcome o

module _ (M : ℕ → Kind → Type 0) (F : ℕ → Kind → ℕ → Type 0) (C : ℕ → ℕ → Type 0) (c : Context) where
  -- ---- names ----

  -- a scalar variable of which M holds, as the text and as its number
  abbrev pub IsScalarName : Text → Type 0
  IsScalarName x = (k : Kind) × (variable_type c.names x ≡ types.Scalar k) × ((variable_named c x).kind ≡ types.Scalar k) × M (numbered c x) k

  -- a procedure of this result, which has so many formals
  abbrev pub FitsResult : ℕ → ℕ → Result → Type 0
  FitsResult m j Nothing = C m j
  FitsResult m j (Gives k) = (value_kind c.procedures m ≡ k) × F m k j
  FitsResult m j Unknown = ⊥

  abbrev pub FitsCallee : Callee → Option ℕ → Type 0
  FitsCallee (Procedure s) None = ⊥
  FitsCallee (Procedure s) (Some m) = FitsResult m (length s.formals) s.result
  FitsCallee (Intrinsic a) None = ⊤
  FitsCallee (Intrinsic a) (Some m) = ⊥
  FitsCallee Missing o = ⊤

  -- the names of scalar variables, and of what is called; and nothing is laid over a place
  abbrev pub Fine : Use → Type 0
  Fine (Named x) = IsScalarName x
  Fine (Applied x) = (t : DataType) × (applied c.names x ≡ Calls t) × FitsCallee (callee c.names x) (called c x)
  Fine (Laid x) = ⊥

  abbrev pub AreFine : List Use → Type 0
  AreFine us = Each Fine us

  -- ---- values ----

  -- an expression of this type in the text
  abbrev pub IsTyped : DataType → Expr → Type 0
  IsTyped t e = (k : Kind) × (t ≡ types.Scalar k) × (type_of e ≡ k) × Scalars M F e

  abbrev pub IsPlace : DataType → Site → Type 0
  IsPlace t s = (k : Kind) × (t ≡ types.Scalar k) × (kind_of (sort_of s) ≡ k) × ScalarSite M s

  -- its kind is the one that is asked for
  pub kind_is : (t : DataType) (k j : Kind) → t ≡ types.Scalar k → fits j t ≡ true → k ≡ j
  kind_is t k j e h = same_kinds j k (subst (λ u. fits j u ≡ true) e h)

  pub wanted : (k : Kind) (e : EflExpr) (w : IsTyped (text.type_of c.names e) (expr_of c e)) → wants c.names k e ≡ [] → type_of (expr_of c e) ≡ k
  wanted k e w h = w.2 ∙ kind_is (text.type_of c.names e) w.0 k w.1 (holds_by (fits k (text.type_of c.names e)) TypeClash h)

  pub value_is : (t : DataType) (k : Kind) → t ≡ types.Scalar k → value_type t ≡ types.Scalar k
  value_is t k e = ap value_type e

  -- ---- calls ----

  pub counted : (es : EflExprs) → count (exprs_of c es) ≡ many es
  counted efl.NoExpr = refl
  counted (efl.AndExpr e es) = let h : count (exprs_of c es) ≡ many es = counted es in omega (h, arith)

  by_result : (m j : ℕ) (r : Result) (t : DataType) (es : EflExprs) → FitsResult m j r → gives t r ≡ true → j ≡ many es → AllScalars M F (exprs_of c es) →
      IsTyped (gives_type r) (typed.Call m (value_kind c.procedures m) (exprs_of c es))
  by_result m j Nothing t es f h e k = absurd (true≢false (sym h))
  by_result m j (Gives g) t es f h e k =
      (g, refl, f.0, (subst (λ n. F m n (count (exprs_of c es))) (sym f.0) (subst (λ n. F m g n) (e ∙ sym (counted es)) f.1), k))
  by_result m j Unknown t es f h e k = absurd f

  by_callee : (x : Text) (q : Callee) (o : Option ℕ) (t : DataType) (es : EflExprs) → FitsCallee q o → when (not (gives_value t q)) TypeClash ≡ [] → actual_faults c.names q es ≡ [] → AllScalars M F (exprs_of c es) →
      IsTyped (called_type q) (call_of c x o (exprs_of c es))
  by_callee x (Procedure s) None t es f h a k = absurd f
  by_callee x (Procedure s) (Some m) t es f h a k =
      by_result m (length s.formals) s.result t es f (holds_by (gives t s.result) TypeClash h)
      (eqb-true (length s.formals) (many es) (holds_by (nat_eq (length s.formals) (many es)) WrongCount (none_left (when (not (nat_eq (length s.formals) (many es))) WrongCount) (when (not (take_actuals c.names s.formals es)) TypeClash) a))) k
  by_callee x (Intrinsic b) None t es f h a k = (kinds.Integer, refl, refl, k)
  by_callee x (Intrinsic b) (Some m) t es f h a k = absurd f
  by_callee x Missing o t es f h a k = absurd (not_none MissingUnit [] a)

  call_typed : (x : Text) (t : DataType) (es : EflExprs) → FitsCallee (callee c.names x) (called c x) → call_faults c.names x es t ≡ [] → AllScalars M F (exprs_of c es) →
      IsTyped (called_type (callee c.names x)) (call_of c x (called c x) (exprs_of c es))
  call_typed x t es f h k =
      let q = callee c.names x in
      by_callee x q (called c x) t es f (none_left (when (not (gives_value t q)) TypeClash) (actual_faults c.names q es) h) (none_right (when (not (gives_value t q)) TypeClash) (actual_faults c.names q es) h) k

  -- ---- places ----

  named_place : (x : Text) (steps : EflSteps) → IsScalarName x → step_faults c.names (variable_type c.names x) steps ≡ [] → AreFine (uses_behind steps) →
      IsPlace (place_type c.names (Path x efl.NoExpr steps)) (site_of c (Path x efl.NoExpr steps))
  named_place x efl.NoStep w h g =
      (w.0, w.1, ap (λ t. kind_of (typing.sort_of t)) w.2, subst (λ t. ScalarSite M (typed.Variable (numbered c x) (typing.sort_of t) typed.NoExpr)) (sym w.2) w.3)
  named_place x (efl.Member y es steps) w h g = absurd (not_none TypeClash _ (subst (λ t. step_faults c.names t (efl.Member y es steps) ≡ []) w.1 h))
  named_place x (efl.Overlay y steps) w h g = absurd g.0

  -- the parts of what is asked of a place
  abbrev Behind : Text → EflExprs → EflSteps → List TypeRule
  Behind x es steps = when (is_call c.names x es && not (ends steps)) TypeClash

  abbrev PlaceParts : Text → EflExprs → EflSteps → Type 0
  PlaceParts x es steps = (name_faults c.names x es ≡ []) × (Behind x es steps ≡ []) × (faults_of_all c.names es ≡ []) × (step_faults c.names (named_type c.names x es) steps ≡ [])

  parts_typed : (x : Text) (es : EflExprs) (steps : EflSteps) → place_faults c.names (Path x es steps) ≡ [] → PlaceParts x es steps
  parts_typed x es steps h = none_of_four (name_faults c.names x es) (Behind x es steps) (faults_of_all c.names es) (step_faults c.names (named_type c.names x es) steps) h

  -- no step stands behind a call
  call_ends : (x : Text) (e : EflExpr) (es : EflExprs) (t : DataType) (steps : EflSteps) → applied c.names x ≡ Calls t → Behind x (efl.AndExpr e es) steps ≡ [] → ends steps ≡ true
  call_ends x e es t steps a h = holds_by (ends steps) TypeClash (subst (λ q. when (calls q && not (ends steps)) TypeClash ≡ []) a h)

  calling : (x : Text) (e : EflExpr) (es : EflExprs) (t : DataType) (steps : EflSteps) → applied c.names x ≡ Calls t → ends steps ≡ true → is_target_call c.names (Path x (efl.AndExpr e es) steps) ≡ true
  calling x e es t steps a h = ap (λ q. calls q && ends steps) a ∙ h

  -- a place that is no call
  pub site_typed : (p : EflPlace) → is_target_call c.names p ≡ false → place_faults c.names p ≡ [] → AreFine (uses_at p) → IsPlace (place_type c.names p) (site_of c p)
  site_typed (Path x efl.NoExpr steps) b h g = named_place x steps g.0 (parts_typed x efl.NoExpr steps h).3 g.1
  site_typed (Path x (efl.AndExpr e es) steps) b h g =
      absurd (true≢false (sym (calling x e es g.0.0 steps g.0.1 (call_ends x e es g.0.0 steps g.0.1 (parts_typed x (efl.AndExpr e es) steps h).1)) ∙ b))

  -- what is stored into
  target_typed : (p : EflPlace) → store_faults c.names p ≡ [] → place_faults c.names p ≡ [] → AreFine (uses_at p) → IsPlace (target_type c.names p) (site_of c p)
  target_typed p s h g =
      let no = fails (is_target_call c.names p) NotAssignable s in
      let w = site_typed p no h g in
      (w.0, ap (λ b. cond b types.NoType (place_type c.names p)) no ∙ w.1, w.2, w.3)

  -- of the kind that is asked for
  pub store_typed : (k : Kind) (p : EflPlace) → store_wants c.names k p ≡ [] → place_faults c.names p ≡ [] → AreFine (uses_at p) →
      (target_type c.names p ≡ types.Scalar k) × (kind_of (sort_of (site_of c p)) ≡ k) × ScalarSite M (site_of c p)
  store_typed k p s h g =
      let own = when (not (fits k (target_type c.names p))) TypeClash in
      let w = target_typed p (none_left (store_faults c.names p) own s) h g in
      let e : w.0 ≡ k = kind_is (target_type c.names p) w.0 k w.1 (holds_by (fits k (target_type c.names p)) TypeClash (none_right (store_faults c.names p) own s)) in
      (w.1 ∙ ap types.Scalar e, w.2 ∙ e, w.3)

  -- ---- expressions ----

  stored : (o : EflOperator) (p : EflPlace) (a : EflExpr) → (target_type c.names p ≡ types.Scalar (operand o)) × (kind_of (sort_of (site_of c p)) ≡ operand o) × ScalarSite M (site_of c p) →
      type_of (expr_of c a) ≡ operand o → Scalars M F (expr_of c a) → Scalars M F (typed.Assign (Some (op_of o)) (site_of c p) (expr_of c a))
  stored o p a w e k = (sides_fit o _ _ w.1 e, w.2, k)

  value_false : (p : EflPlace) → is_target_call c.names p ≡ false → place_faults c.names p ≡ [] → AreFine (uses_at p) → IsTyped (place_type c.names p) (value_at c false p)
  value_false (Path x es steps) b h g = let w = site_typed (Path x es steps) b h g in (w.0, w.1, w.2, w.3)

  both_operands : (o : EflOperator) (a b : EflExpr) → IsTyped (text.type_of c.names a) (expr_of c a) → IsTyped (text.type_of c.names b) (expr_of c b) →
      wants c.names (operand o) a ≡ [] → wants c.names (operand o) b ≡ [] → IsTyped (types.Scalar (outcome o)) (expr_of c (efl.Pair o a b))
  both_operands o a b v w h g = (outcome o, refl, given_alike o, (sides_fit o _ _ (wanted (operand o) a v h) (wanted (operand o) b w g), v.3, w.3))

  both_sides : (p : EflPlace) (a : EflExpr) → IsPlace (target_type c.names p) (site_of c p) → IsTyped (text.type_of c.names a) (expr_of c a) →
      fit_sides (target_type c.names p) (text.type_of c.names a) ≡ true → IsTyped (value_type (target_type c.names p)) (expr_of c (efl.Assign None p a))
  both_sides p a v w h =
      (v.0, value_is (target_type c.names p) v.0 v.1, w.2 ∙ kind_is (text.type_of c.names a) w.0 v.0 w.1 (subst (λ t. fit_sides t (text.type_of c.names a) ≡ true) v.1 h), (v.3, w.3))

  assigned : (o : EflOperator) (p : EflPlace) (a : EflExpr) → operand o ≡ outcome o → (target_type c.names p ≡ types.Scalar (operand o)) × (kind_of (sort_of (site_of c p)) ≡ operand o) × ScalarSite M (site_of c p) →
      type_of (expr_of c a) ≡ operand o → Scalars M F (expr_of c a) → IsTyped (value_type (target_type c.names p)) (expr_of c (efl.Assign (Some o) p a))
  assigned o p a keeps w e k = (operand o, value_is (target_type c.names p) (operand o) w.0, given_alike o ∙ sym keeps, stored o p a w e k)

  -- a call with parentheses, which is no subscript
  empty_typed : (x : Text) (es : EflExprs) → Fine (Applied x) → empty_call_faults c.names x es (applied c.names x) ≡ [] → AllScalars M F (exprs_of c es) →
      IsTyped (text.type_of c.names (efl.Call x es)) (expr_of c (efl.Call x es))
  empty_typed x es f h k =
      let w = call_typed x f.0 es f.2 (subst (λ q. empty_call_faults c.names x es q ≡ []) f.1 h) k in
      (w.0, ap (text.empty_call_type c.names x) f.1 ∙ w.1, w.2, w.3)

  applied_typed : (x : Text) (e : EflExpr) (es : EflExprs) → Fine (Applied x) → name_faults c.names x (efl.AndExpr e es) ≡ [] → AllScalars M F (exprs_of c (efl.AndExpr e es)) →
      IsTyped (place_type c.names (Path x (efl.AndExpr e es) efl.NoStep)) (value_at c true (Path x (efl.AndExpr e es) efl.NoStep))
  applied_typed x e es f h k =
      let w = call_typed x f.0 (efl.AndExpr e es) f.2 (subst (λ q. applied_faults c.names x (efl.AndExpr e es) q ≡ []) f.1 h) k in
      (w.0, ap (applied_type c.names x (many (efl.AndExpr e es))) f.1 ∙ w.1, w.2, w.3)

  abbrev wants1 : Kind → EflExpr → List TypeRule
  wants1 k a = wants c.names k a

  abbrev faults1 : EflExpr → List TypeRule
  faults1 a = faults c.names a

  mutual
    pub expr_typed : (e : EflExpr) → faults c.names e ≡ [] → AreFine (uses_of e) → Each Keeps (operators_of e) → IsTyped (text.type_of c.names e) (expr_of c e)
    expr_typed (efl.Int z) h g k = (kinds.Integer, refl, refl, tt)
    expr_typed (efl.Truth b) h g k = (kinds.Logical, refl, refl, tt)
    expr_typed (efl.At p) h g k = value_typed (is_target_call c.names p) p refl h g k
    expr_typed (efl.Call x es) h g k =
        let first = empty_call_faults c.names x es (applied c.names x) in
        empty_typed x es g.0 (none_left first (faults_of_all c.names es) h) (exprs_typed es (none_right first (faults_of_all c.names es) h) g.1 k)
    expr_typed (efl.Group a) h g k = let w = expr_typed a (none_right (wants_single c.names a) (faults1 a) h) g k in (w.0, value_is (text.type_of c.names a) w.0 w.1, w.2, w.3)
    expr_typed (efl.Plus a) h g k = (kinds.Integer, refl, refl, (expr_typed a (none_right (wants1 kinds.Integer a) (faults1 a) h) g k).3)
    expr_typed (efl.Minus a) h g k = (kinds.Integer, refl, refl, (expr_typed a (none_right (wants1 kinds.Integer a) (faults1 a) h) g k).3)
    expr_typed (efl.Not a) h g k = (kinds.Logical, refl, refl, (expr_typed a (none_right (wants1 kinds.Logical a) (faults1 a) h) g k).3)
    expr_typed (efl.Up p) h g k =
        let own = store_wants c.names kinds.Integer p in
        let w = store_typed kinds.Integer p (none_left own (place_faults c.names p) h) (none_right own (place_faults c.names p) h) g in
        (kinds.Integer, value_is (target_type c.names p) kinds.Integer w.0, refl, (w.2, w.1))
    expr_typed (efl.Down p) h g k =
        let own = store_wants c.names kinds.Integer p in
        let w = store_typed kinds.Integer p (none_left own (place_faults c.names p) h) (none_right own (place_faults c.names p) h) g in
        (kinds.Integer, value_is (target_type c.names p) kinds.Integer w.0, refl, (w.2, w.1))
    expr_typed (efl.Pair o a b) h g k =
        let hs = none_of_four (wants1 (operand o) a) (wants1 (operand o) b) (faults1 a) (faults1 b) h in
        both_operands o a b
        (expr_typed a hs.2 (each_left Fine (uses_of a) (uses_of b) g) (each_left Keeps (operators_of a) (operators_of b) k))
        (expr_typed b hs.3 (each_right Fine (uses_of a) (uses_of b) g) (each_right Keeps (operators_of a) (operators_of b) k))
        hs.0 hs.1
    expr_typed (efl.Assign None p a) h g k =
        let clash = when (not (fit_sides (target_type c.names p) (text.type_of c.names a))) TypeClash in
        let hs = none_of_four (store_faults c.names p) clash (place_faults c.names p) (faults1 a) h in
        both_sides p a
        (target_typed p hs.0 hs.2 (each_left Fine (uses_at p) (uses_of a) g))
        (expr_typed a hs.3 (each_right Fine (uses_at p) (uses_of a) g) (each_right Keeps (operators_at p) (operators_of a) k))
        (holds_by (fit_sides (target_type c.names p) (text.type_of c.names a)) TypeClash hs.1)
    expr_typed (efl.Assign (Some o) p a) h g k =
        let own = store_wants c.names (operand o) p in
        let hs = none_of_four own (wants1 (operand o) a) (place_faults c.names p) (faults1 a) h in
        let w = store_typed (operand o) p hs.0 hs.2 (each_left Fine (uses_at p) (uses_of a) g) in
        let v = expr_typed a hs.3 (each_right Fine (uses_at p) (uses_of a) g) (each_right Keeps (operators_at p) (operators_of a) k.1) in
        let e = wanted (operand o) a v hs.1 in
        assigned o p a k.0 w e v.3

    pub exprs_typed : (es : EflExprs) → faults_of_all c.names es ≡ [] → AreFine (uses_of_all es) → Each Keeps (operators_of_all es) → AllScalars M F (exprs_of c es)
    exprs_typed efl.NoExpr h g k = tt
    exprs_typed (efl.AndExpr e es) h g k =
        let first = expr_typed e (none_left (faults1 e) (faults_of_all c.names es) h) (each_left Fine (uses_of e) (uses_of_all es) g) (each_left Keeps (operators_of e) (operators_of_all es) k) in
        (first.3, exprs_typed es (none_right (faults1 e) (faults_of_all c.names es) h) (each_right Fine (uses_of e) (uses_of_all es) g) (each_right Keeps (operators_of e) (operators_of_all es) k))

    value_typed : (b : Bool) (p : EflPlace) → is_target_call c.names p ≡ b → place_faults c.names p ≡ [] → AreFine (uses_at p) → Each Keeps (operators_at p) → IsTyped (place_type c.names p) (value_at c b p)
    value_typed false p b h g k = value_false p b h g
    value_typed true (Path x efl.NoExpr steps) b h g k = absurd (true≢false (sym b))
    value_typed true (Path x (efl.AndExpr e es) efl.NoStep) b h g k =
        let hs = parts_typed x (efl.AndExpr e es) efl.NoStep h in
        applied_typed x e es g.0 hs.0 (exprs_typed (efl.AndExpr e es) hs.2 (each_left Fine (uses_of_all (efl.AndExpr e es)) [] g.1) (each_left Keeps (operators_of_all (efl.AndExpr e es)) [] k))
    value_typed true (Path x (efl.AndExpr e es) (efl.Member y fs steps)) b h g k =
        absurd (true≢false (sym (call_ends x e es g.0.0 (efl.Member y fs steps) g.0.1 (parts_typed x (efl.AndExpr e es) (efl.Member y fs steps) h).1)))
    value_typed true (Path x (efl.AndExpr e es) (efl.Overlay y steps)) b h g k =
        absurd (true≢false (sym (call_ends x e es g.0.0 (efl.Overlay y steps) g.0.1 (parts_typed x (efl.AndExpr e es) (efl.Overlay y steps) h).1)))
