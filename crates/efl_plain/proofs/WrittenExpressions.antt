-- An expression that breaks no rule of types, and whose numbers are in their range, is written: each operand has the type that is asked
-- for, and each intrinsic function as many arguments as it takes.
use Rattle.std.proofs.Common.{◌≡◌, ℕ, Bool, true, false, true≢false, cond, List, [], Option, None, Some, refl, sym, ap, ◌∙◌, subst, if◌then◌else◌}
use Rattle.std.specs.Prelude.{ℤ, not, ◌&&◌, find, codes}
use Rattle.std.specs.Str.{bytes_eq}
use Rattle.std.proofs.lemmas.Option.{none-some, same_Some}
use Rattle.ground.specs.declared.value.Kind.{Kind}
use Rattle.ground.specs.declared.value.Kind.TheVariants as kinds
use Rattle.f66_tree.specs.Built.{is_constant}
use Rattle.f66_names.specs.Sorts.{arity, takes_many}
use Rattle.efl_tree.specs.declared.expression.EflOperator.{EflOperator}
use Rattle.efl_tree.specs.declared.expression.EflOperator.TheVariants as operators
use Rattle.efl_tree.specs.Syntax as efl
use Rattle.efl_tree.specs.Syntax.{Text, EflExpr, EflExprs, EflPlace, Path, EflSteps}
use Rattle.efl_scope.specs.DataTypes as types
use Rattle.efl_scope.specs.DataTypes.{DataType}
use Rattle.efl_scope.specs.Uses.{Use, Applied, uses_of, uses_of_all, uses_at}
use Rattle.efl_types.specs.declared.rule.TypeRule.TheVariants.{TypeClash, WrongCount, MissingUnit, NotAssignable}
use Rattle.efl_types.specs.Signatures.{Signature, Arity, One, Two, TwoOrMore, known, takes, Callee, Procedure, Intrinsic, Missing, known_if, callee_by, callee, applied, many}
use Rattle.efl_types.specs.Types as text
use Rattle.efl_types.specs.Types.{named_type, place_type, calls, ends, is_target_call, target_type, operand, outcome, fit_sides}
use Rattle.efl_types.specs.Expressions.{when, wants, all_want, actual_faults, gives_value, call_faults, applied_faults, name_faults, empty_call_faults, wants_single, store_faults, store_wants, faults, faults_of_all, place_faults, step_faults}
use Rattle.efl_program.specs.Places.{sort_of, kind_of}
use Rattle.efl_typed.specs.Typing.{Context, op_of, intrinsic, called, call_of, expr_of, exprs_of, value_at, site_of}
use Rattle.efl_typed.proofs.Each.{Each, each_left, each_right}
use Rattle.efl_routes.specs.Expressions.{kind_by, type_of, count}
use Rattle.efl_lowered.specs.Grammatical.{operators_of, operators_of_all, operators_at}
use Rattle.efl_lowered.proofs.Lists.{text_is}
use Rattle.efl_lowered.proofs.TypedRules.{not_none, none_left, none_right, none_of_four, fails, holds_by}
use Rattle.efl_lowered.proofs.TypedExpressions.{Keeps, FitsCallee, Fine, IsTyped, kind_is, wanted, counted, site_typed, store_typed, expr_typed}
use Rattle.efl_plain.specs.Written.{side, IsWritten, AreWritten, AreIntegers}
use Rattle.efl_plain.specs.Tree.{numbers_of, numbers_of_all, numbers_at}

-- ---- operators ----

side_alike : (o : EflOperator) → side (op_of o) ≡ operand o
side_alike operators.Add = refl
side_alike operators.Sub = refl
side_alike operators.Mul = refl
side_alike operators.Div = refl
side_alike operators.Power = refl
side_alike operators.Lt = refl
side_alike operators.Le = refl
side_alike operators.Eq = refl
side_alike operators.Ne = refl
side_alike operators.Ge = refl
side_alike operators.Gt = refl
side_alike operators.And = refl
side_alike operators.Or = refl
side_alike operators.AndThen = refl
side_alike operators.OrElse = refl

given_alike : (o : EflOperator) → kind_by (op_of o) ≡ outcome o
given_alike operators.Add = refl
given_alike operators.Sub = refl
given_alike operators.Mul = refl
given_alike operators.Div = refl
given_alike operators.Power = refl
given_alike operators.Lt = refl
given_alike operators.Le = refl
given_alike operators.Eq = refl
given_alike operators.Ne = refl
given_alike operators.Ge = refl
given_alike operators.Gt = refl
given_alike operators.And = refl
given_alike operators.Or = refl
given_alike operators.AndThen = refl
given_alike operators.OrElse = refl

-- ---- intrinsic functions ----

-- what takes so many arguments in the text does so as a function of FORTRAN
abbrev Alike : Text → Arity → Type 0
Alike x a = (n : ℕ) → takes a n ≡ true → takes_many (arity (intrinsic x)) n ≡ true

one_name : (x y : Text) (b : Bool) (own a : Arity) (rest : Option Arity) → bytes_eq x y ≡ b → Alike y own → (rest ≡ Some a → Alike x a) → (if b then Some own else rest) ≡ Some a → Alike x a
one_name x y true own a rest t same later e = subst (λ z. Alike z a) (sym (text_is x y t)) (subst (Alike y) (same_Some own a e) same)
one_name x y false own a rest t same later e = later e

known_alike : (x : Text) (a : Arity) → known x ≡ Some a → Alike x a
known_alike x a =
    one_name x (codes "ABS") (bytes_eq x (codes "ABS")) One a _ refl (λ n h. h)
    (one_name x (codes "MOD") (bytes_eq x (codes "MOD")) Two a _ refl (λ n h. h)
    (one_name x (codes "SIGN") (bytes_eq x (codes "SIGN")) Two a _ refl (λ n h. h)
    (one_name x (codes "MIN") (bytes_eq x (codes "MIN")) TwoOrMore a _ refl (λ n h. h)
    (one_name x (codes "MAX") (bytes_eq x (codes "MAX")) TwoOrMore a None refl (λ n h. h) (λ e. absurd (none-some a e))))))

abbrev arity_in : Callee → Option Arity
arity_in (Intrinsic a) = Some a
arity_in _ = None

known_in : (o : Option Arity) → arity_in (known_if o) ≡ o
known_in None = refl
known_in (Some a) = refl

called_known : (x : Text) (o : Option Signature) (a : Arity) → callee_by x o ≡ Intrinsic a → known x ≡ Some a
called_known x None a e = sym (known_in (known x)) ∙ ap arity_in e
called_known x (Some s) a e = absurd (none-some a (ap arity_in e))

-- numbers that are in their range
abbrev pub Constant : ℤ → Type 0
Constant z = is_constant z ≡ true

abbrev pub AreConstants : List ℤ → Type 0
AreConstants zs = Each Constant zs

module _ (M : ℕ → Kind → Type 0) (F : ℕ → Kind → ℕ → Type 0) (C : ℕ → ℕ → Type 0) (c : Context) where
  abbrev AreFine1 : List Use → Type 0
  AreFine1 us = Each (Fine M F C c) us

  abbrev IsTyped1 : EflExpr → Type 0
  IsTyped1 e = IsTyped M F C c (text.type_of c.names e) (expr_of c e)

  -- ---- calls ----

  by_callee : (x : Text) (q : Callee) (o : Option ℕ) (es : EflExprs) → callee c.names x ≡ q → FitsCallee M F C c q o → actual_faults c.names q es ≡ [] →
      (all_want c.names kinds.Integer es ≡ [] → AreIntegers (exprs_of c es)) → AreWritten (exprs_of c es) → IsWritten (call_of c x o (exprs_of c es))
  by_callee x (Procedure s) None es e f h i k = absurd f
  by_callee x (Procedure s) (Some m) es e f h i k = k
  by_callee x (Intrinsic a) None es e f h i k =
      let own = when (not (takes a (many es))) WrongCount in
      let named = called_known x (find (λ s. bytes_eq x s.name) c.names.units) a e in
      let counted1 = subst (λ n. takes a n ≡ true) (sym (counted M F C c es)) (holds_by (takes a (many es)) WrongCount (none_left own (all_want c.names kinds.Integer es) h)) in
      (known_alike x a named (count (exprs_of c es)) counted1, i (none_right own (all_want c.names kinds.Integer es) h), k)
  by_callee x (Intrinsic a) (Some m) es e f h i k = absurd f
  by_callee x Missing o es e f h i k = absurd (not_none MissingUnit [] h)

  call_written : (x : Text) (t : DataType) (es : EflExprs) → FitsCallee M F C c (callee c.names x) (called c x) → call_faults c.names x es t ≡ [] →
      (all_want c.names kinds.Integer es ≡ [] → AreIntegers (exprs_of c es)) → AreWritten (exprs_of c es) → IsWritten (call_of c x (called c x) (exprs_of c es))
  call_written x t es f h i k =
      let q = callee c.names x in by_callee x q (called c x) es refl f (none_right (when (not (gives_value t q)) TypeClash) (actual_faults c.names q es) h) i k

  -- ---- operands ----

  all_integers : (es : EflExprs) → faults_of_all c.names es ≡ [] → AreFine1 (uses_of_all es) → Each Keeps (operators_of_all es) → all_want c.names kinds.Integer es ≡ [] → AreIntegers (exprs_of c es)
  all_integers efl.NoExpr h g o w = tt
  all_integers (efl.AndExpr e es) h g o w =
      let first = expr_typed M F C c e (none_left (faults c.names e) (faults_of_all c.names es) h) (each_left (Fine M F C c) (uses_of e) (uses_of_all es) g) (each_left Keeps (operators_of e) (operators_of_all es) o) in (
        wanted M F C c kinds.Integer e first (none_left (wants c.names kinds.Integer e) (all_want c.names kinds.Integer es) w),
        all_integers es (none_right (faults c.names e) (faults_of_all c.names es) h) (each_right (Fine M F C c) (uses_of e) (uses_of_all es) g) (each_right Keeps (operators_of e) (operators_of_all es) o)
            (none_right (wants c.names kinds.Integer e) (all_want c.names kinds.Integer es) w),
      )

  -- an operand of the type that is asked for
  pub operand_fits : (k : Kind) (e : EflExpr) → wants c.names k e ≡ [] → faults c.names e ≡ [] → AreFine1 (uses_of e) → Each Keeps (operators_of e) → type_of (expr_of c e) ≡ k
  operand_fits k e w h g o = wanted M F C c k e (expr_typed M F C c e h g o) w

  -- what is stored into has the type of what is stored
  sides_alike : (p : EflPlace) (a : EflExpr) → store_faults c.names p ≡ [] → place_faults c.names p ≡ [] → AreFine1 (uses_at p) → IsTyped1 a → fit_sides (target_type c.names p) (text.type_of c.names a) ≡ true →
      type_of (expr_of c a) ≡ kind_of (sort_of (site_of c p))
  sides_alike p a s h g w f =
      let no = fails (is_target_call c.names p) NotAssignable s in
      let v = site_typed M F C c p no h g in
      let e : target_type c.names p ≡ types.Scalar v.0 = ap (λ b. cond b types.NoType (place_type c.names p)) no ∙ v.1 in
      w.2 ∙ kind_is M F C c (text.type_of c.names a) w.0 v.0 w.1 (subst (λ t. fit_sides t (text.type_of c.names a) ≡ true) e f) ∙ sym v.2

  -- ---- expressions ----

  -- no step stands behind a call
  pub call_ends : (x : Text) (e : EflExpr) (es : EflExprs) (steps : EflSteps) → Fine M F C c (Applied x) → place_faults c.names (Path x (efl.AndExpr e es) steps) ≡ [] → ends steps ≡ true
  call_ends x e es steps f h =
      let hs = none_of_four (name_faults c.names x (efl.AndExpr e es)) (when (calls (applied c.names x) && not (ends steps)) TypeClash) (faults_of_all c.names (efl.AndExpr e es)) (step_faults c.names (named_type c.names x (efl.AndExpr e es)) steps) h in
      holds_by (ends steps) TypeClash (subst (λ q. when (calls q && not (ends steps)) TypeClash ≡ []) f.1 hs.1)

  mutual
    pub expr_written : (e : EflExpr) → faults c.names e ≡ [] → AreFine1 (uses_of e) → Each Keeps (operators_of e) → AreConstants (numbers_of e) → IsWritten (expr_of c e)
    expr_written (efl.Int z) h g o k = k.0
    expr_written (efl.Truth b) h g o k = tt
    expr_written (efl.At p) h g o k = value_written (is_target_call c.names p) p refl h g o k
    expr_written (efl.Call x es) h g o k =
        let first = empty_call_faults c.names x es (applied c.names x) in
        let rest = none_right first (faults_of_all c.names es) h in
        let f = g.0 in
        call_written x f.0 es f.2 (subst (λ q. empty_call_faults c.names x es q ≡ []) f.1 (none_left first (faults_of_all c.names es) h)) (all_integers es rest g.1 o) (exprs_written es rest g.1 o k)
    expr_written (efl.Group a) h g o k = expr_written a (none_right (wants_single c.names a) (faults c.names a) h) g o k
    expr_written (efl.Plus a) h g o k =
        let own = wants c.names kinds.Integer a in
        let rest = none_right own (faults c.names a) h in (operand_fits kinds.Integer a (none_left own (faults c.names a) h) rest g o, expr_written a rest g o k)
    expr_written (efl.Minus a) h g o k =
        let own = wants c.names kinds.Integer a in
        let rest = none_right own (faults c.names a) h in (operand_fits kinds.Integer a (none_left own (faults c.names a) h) rest g o, expr_written a rest g o k)
    expr_written (efl.Not a) h g o k =
        let own = wants c.names kinds.Logical a in
        let rest = none_right own (faults c.names a) h in (operand_fits kinds.Logical a (none_left own (faults c.names a) h) rest g o, expr_written a rest g o k)
    expr_written (efl.Up p) h g o k =
        let own = store_wants c.names kinds.Integer p in
        (store_typed M F C c kinds.Integer p (none_left own (place_faults c.names p) h) (none_right own (place_faults c.names p) h) g).1
    expr_written (efl.Down p) h g o k =
        let own = store_wants c.names kinds.Integer p in
        (store_typed M F C c kinds.Integer p (none_left own (place_faults c.names p) h) (none_right own (place_faults c.names p) h) g).1
    expr_written (efl.Pair op a b) h g o k =
        let hs = none_of_four (wants c.names (operand op) a) (wants c.names (operand op) b) (faults c.names a) (faults c.names b) h in
        let g0 = each_left (Fine M F C c) (uses_of a) (uses_of b) g in
        let g1 = each_right (Fine M F C c) (uses_of a) (uses_of b) g in
        let o0 = each_left Keeps (operators_of a) (operators_of b) o in
        let o1 = each_right Keeps (operators_of a) (operators_of b) o in (
          operand_fits (operand op) a hs.0 hs.2 g0 o0 ∙ sym (side_alike op),
          operand_fits (operand op) b hs.1 hs.3 g1 o1 ∙ sym (side_alike op),
          expr_written a hs.2 g0 o0 (each_left Constant (numbers_of a) (numbers_of b) k),
          expr_written b hs.3 g1 o1 (each_right Constant (numbers_of a) (numbers_of b) k),
        )
    expr_written (efl.Assign None p a) h g o k =
        let clash = when (not (fit_sides (target_type c.names p) (text.type_of c.names a))) TypeClash in
        let hs = none_of_four (store_faults c.names p) clash (place_faults c.names p) (faults c.names a) h in
        let g1 = each_right (Fine M F C c) (uses_at p) (uses_of a) g in
        let o1 = each_right Keeps (operators_at p) (operators_of a) o in (
          sides_alike p a hs.0 hs.2 (each_left (Fine M F C c) (uses_at p) (uses_of a) g) (expr_typed M F C c a hs.3 g1 o1) (holds_by (fit_sides (target_type c.names p) (text.type_of c.names a)) TypeClash hs.1),
          expr_written a hs.3 g1 o1 (each_right Constant (numbers_at p) (numbers_of a) k),
        )
    expr_written (efl.Assign (Some op) p a) h g o k =
        let own = store_wants c.names (operand op) p in
        let hs = none_of_four own (wants c.names (operand op) a) (place_faults c.names p) (faults c.names a) h in
        let g1 = each_right (Fine M F C c) (uses_at p) (uses_of a) g in
        let o1 = each_right Keeps (operators_at p) (operators_of a) o.1 in
        let w = store_typed M F C c (operand op) p hs.0 hs.2 (each_left (Fine M F C c) (uses_at p) (uses_of a) g) in (
          w.1 ∙ sym (side_alike op),
          operand_fits (operand op) a hs.1 hs.3 g1 o1 ∙ sym (side_alike op),
          given_alike op ∙ sym o.0 ∙ sym w.1,
          expr_written a hs.3 g1 o1 (each_right Constant (numbers_at p) (numbers_of a) k),
        )

    pub exprs_written : (es : EflExprs) → faults_of_all c.names es ≡ [] → AreFine1 (uses_of_all es) → Each Keeps (operators_of_all es) → AreConstants (numbers_of_all es) → AreWritten (exprs_of c es)
    exprs_written efl.NoExpr h g o k = tt
    exprs_written (efl.AndExpr e es) h g o k = (
      expr_written e (none_left (faults c.names e) (faults_of_all c.names es) h) (each_left (Fine M F C c) (uses_of e) (uses_of_all es) g) (each_left Keeps (operators_of e) (operators_of_all es) o) (each_left Constant (numbers_of e) (numbers_of_all es) k),
      exprs_written es (none_right (faults c.names e) (faults_of_all c.names es) h) (each_right (Fine M F C c) (uses_of e) (uses_of_all es) g) (each_right Keeps (operators_of e) (operators_of_all es) o) (each_right Constant (numbers_of e) (numbers_of_all es) k),
    )

    value_written : (b : Bool) (p : EflPlace) → is_target_call c.names p ≡ b → place_faults c.names p ≡ [] → AreFine1 (uses_at p) → Each Keeps (operators_at p) → AreConstants (numbers_at p) → IsWritten (value_at c b p)
    value_written false (Path x es steps) b h g o k = tt
    value_written true (Path x efl.NoExpr steps) b h g o k = absurd (true≢false (sym b))
    value_written true (Path x (efl.AndExpr e es) efl.NoStep) b h g o k =
        let all = efl.AndExpr e es in
        let hs = none_of_four (name_faults c.names x all) (when (calls (applied c.names x) && false) TypeClash) (faults_of_all c.names all) [] h in
        let f = g.0 in
        let g1 = each_left (Fine M F C c) (uses_of_all all) [] g.1 in
        let o1 = each_left Keeps (operators_of_all all) [] o in
        call_written x f.0 all f.2 (subst (λ q. applied_faults c.names x all q ≡ []) f.1 hs.0) (all_integers all hs.2 g1 o1) (exprs_written (efl.AndExpr e es) hs.2 g1 o1 (each_left Constant (numbers_of_all all) [] k))
    value_written true (Path x (efl.AndExpr e es) (efl.Member y fs steps)) b h g o k = absurd (true≢false (sym (call_ends x e es (efl.Member y fs steps) g.0 h)))
    value_written true (Path x (efl.AndExpr e es) (efl.Overlay y steps)) b h g o k = absurd (true≢false (sym (call_ends x e es (efl.Overlay y steps) g.0 h)))
