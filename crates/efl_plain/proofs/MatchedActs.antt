-- In conditions, acts and items of records that break no rule of types each actual of a call has the type of its formal.
use Rattle.std.proofs.Common.{◌≡◌, ℕ, List, [], ◌∷◌, ◌++◌, map, Option, None, Some}
use Rattle.std.specs.Prelude.{not, ◌||◌, flat_map, option_map}
use Rattle.ground.specs.declared.value.Kind.{Kind}
use Rattle.efl_tree.specs.declared.expression.EflOperator.{EflOperator}
use Rattle.efl_tree.specs.Syntax as efl
use Rattle.efl_tree.specs.Syntax.{EflExpr, EflProgram}
use Rattle.efl_scope.specs.Uses.{Use, uses_of, uses_if, uses_written}
use Rattle.efl_types.specs.declared.rule.TypeRule.TheVariants.{TypeClash}
use Rattle.efl_types.specs.Signatures.{callee, is_variable}
use Rattle.efl_types.specs.Expressions.{when, wants, actual_faults, faults, faults_of_all}
use Rattle.efl_types.specs.Statements.{may_be_called, act_faults, act_if, value_faults, value_if, edited, written_faults}
use Rattle.efl_program.specs.Typed.{Exprs}
use Rattle.efl_typed.specs.Typing.{Context, called, expr_of, exprs_of, invoke, action_of, written}
use Rattle.efl_typed.proofs.Each.{Each, each_left, each_right}
use Rattle.efl_lowered.specs.Grammatical.{operators_of, operators_if, operators_written}
use Rattle.efl_lowered.proofs.TypedRules.{none_left, none_right, none_of_three}
use Rattle.efl_lowered.proofs.TypedExpressions.{Keeps, Fine}
use Rattle.efl_plain.specs.Matched.{ExprCalls, ExprsCall, CallsIfAny, ActionCalls, ActionIfAny, ItemsCall}
use Rattle.efl_plain.proofs.FormalTypes.{KnowsFormals}
use Rattle.efl_plain.proofs.MatchedExpressions.{Fit, FitIfAny, called_fits, expr_matched, exprs_matched}

module _ (p : EflProgram) (M : ℕ → Kind → Type 0) (F : ℕ → Kind → ℕ → Type 0) (C : ℕ → ℕ → Type 0) (c : Context) (known : KnowsFormals p c) where
  -- the names that are used are fine, and so are the operators of assignments
  abbrev pub IsGood : List Use → List EflOperator → Type 0
  IsGood us os = Each (Fine M F C c) us × Each Keeps os

  pub good_left : (us vs : List Use) (os ps : List EflOperator) → IsGood (us ++ vs) (os ++ ps) → IsGood us os
  good_left us vs os ps g = (each_left (Fine M F C c) us vs g.0, each_left Keeps os ps g.1)

  pub good_right : (us vs : List Use) (os ps : List EflOperator) → IsGood (us ++ vs) (os ++ ps) → IsGood vs ps
  good_right us vs os ps g = (each_right (Fine M F C c) us vs g.0, each_right Keeps os ps g.1)

  abbrev pub GoodIn : EflExpr → Type 0
  GoodIn e = IsGood (uses_of e) (operators_of e)

  abbrev pub GoodIf : Option EflExpr → Type 0
  GoodIf o = IsGood (uses_if o) (operators_if o)

  -- ---- values ----

  -- of any type that is asked for
  pub value_matched : (k : Kind) (e : EflExpr) → value_faults c.names k e ≡ [] → GoodIn e → ExprCalls (Fit p) (expr_of c e)
  value_matched k e h g = expr_matched p M F C c known e (none_right (wants c.names k e) (faults c.names e) h) g.0 g.1

  pub value_if_any : (k : Kind) (o : Option EflExpr) → value_if c.names k o ≡ [] → GoodIf o → CallsIfAny (Fit p) (option_map (expr_of c) o)
  value_if_any k None h g = tt
  value_if_any k (Some e) h g = value_matched k e h g

  -- ---- acts ----

  invoked : (o : Option ℕ) (es : Exprs) → FitIfAny p o es → ExprsCall (Fit p) es → ActionCalls (Fit p) (invoke o es)
  invoked None es h k = tt
  invoked (Some n) es h k = (h, k)

  pub act_matched : (e : EflExpr) → act_faults c.names e ≡ [] → GoodIn e → ActionCalls (Fit p) (action_of c e)
  act_matched (efl.Call x es) h g =
      let q = callee c.names x in
      let hs = none_of_three (when (is_variable c.names x || not (may_be_called q)) TypeClash) (actual_faults c.names q es) (faults_of_all c.names es) h in
      let own = g.0 in
      let f = own.0 in
      invoked (called c x) (exprs_of c es) (called_fits p M F C c known x es f.2 hs.1 hs.2 own.1 g.1) (exprs_matched p M F C c known es hs.2 own.1 g.1)
  act_matched e h g = expr_matched p M F C c known e h g.0 g.1

  pub act_if_any : (o : Option EflExpr) → act_if c.names o ≡ [] → GoodIf o → ActionIfAny (Fit p) (option_map (action_of c) o)
  act_if_any None h g = tt
  act_if_any (Some e) h g = act_matched e h g

  -- ---- items ----

  pub items_matched : (xs : List efl.WriteItem) → flat_map (written_faults c.names) xs ≡ [] → IsGood (flat_map uses_written xs) (flat_map operators_written xs) → ItemsCall (Fit p) (map (written c) xs)
  items_matched [] h g = tt
  items_matched (efl.Value e f ∷ xs) h g =
      let own = value_faults c.names (edited f) e in
      let more = flat_map (written_faults c.names) xs in
      let us = flat_map uses_written xs in
      let os = flat_map operators_written xs in (
        value_matched (edited f) e (none_left own more h) (good_left (uses_of e) us (operators_of e) os g),
        items_matched xs (none_right own more h) (good_right (uses_of e) us (operators_of e) os g),
      )
  items_matched (efl.WriteItem.Skip n ∷ xs) h g = items_matched xs h g
  items_matched (efl.Chars x ∷ xs) h g = items_matched xs h g
