-- The routes of an expression have acts with few operands alone.
use Rattle.std.proofs.Common.{ℕ, zero, suc, ◌+◌, ◌≤◌, None, Some, sym, subst, arith}
use Rattle.std.specs.Prelude.{⊤}
use Rattle.ground.specs.declared.place.Place.{Place}
use Rattle.ground.specs.declared.value.Kind.{Kind}
use Rattle.ground.specs.declared.value.Kind.TheVariants.{Integer}
use Rattle.f66_tree.specs.Syntax as f66
use Rattle.f66_tree.specs.Syntax.{Text, Formula, Formulas, NoFormula, AndFormula, Ref}
use Rattle.f66_names.specs.Uses.{many}
use Rattle.efl_program.specs.Typed.{Op, Plain, AndThen, OrElse, Expr, Int, Truth, At, Call, Known, Group, Plus, Minus, Not, Up, Down, Pair, Assign, Exprs, NoExpr, AndExpr}
use Rattle.routes.specs.Routes.{Routes}
use Rattle.plain_decks.specs.Few.{HasFew, HasFewNames, HasWholeFormat}
use Rattle.plain_decks.proofs.Operands.{few_operands}
use Rattle.routed_units.specs.Routed.{AllActs}
use Rattle.efl_routes.specs.Expressions.{intrinsic_name, made, made_in, made_for, variable_of, count, or_one, first, further, gathered, combined, formula, formulas, actuals, routes, all_routes, actual_routes, Scalars, AllScalars}
use Rattle.efl_plain.proofs.Actuals.{by_actual}
use Rattle.efl_limits.proofs.ExpressionBytes.{many_actuals}

-- a statement with few operands or names, and a FORMAT as decks ask
abbrev pub Short : f66.Act → Type 0
Short a = HasFew a × HasWholeFormat a × HasFewNames a

abbrev pub ActsShort : Routes → Type 0
ActsShort rs = AllActs Short rs

-- no reference
abbrev pub IsNoItem : Formula → Type 0
IsNoItem (f66.Item x es) = ⊥
IsNoItem e = ⊤

pub no_item : (x : Text) (e : Formula) → IsNoItem e → Short (f66.Assign (Ref x) e)
no_item x (f66.Int z) h = (tt, tt, tt)
no_item x (f66.Truth b) h = (tt, tt, tt)
no_item x (f66.Letter l) h = (tt, tt, tt)
no_item x (Ref y) h = (tt, tt, tt)
no_item x (f66.Item y es) h = absurd h
no_item x (f66.Group a) h = (tt, tt, tt)
no_item x (f66.Plus a) h = (tt, tt, tt)
no_item x (f66.Minus a) h = (tt, tt, tt)
no_item x (f66.Not a) h = (tt, tt, tt)
no_item x (f66.Pair op a b) h = (tt, tt, tt)

or_one_few : (es : Formulas) → many es ≤ 32 → many (or_one es) ≤ 100
or_one_few NoFormula h = omega arith
or_one_few (AndFormula e es) h = omega (h, arith)

combined_short : (p : Place) (op : Op) (left : Formula) (right : Routes → Routes) (e : Formula) (x : Text) (rest : Routes) → IsNoItem left → IsNoItem e → ((r : Routes) → ActsShort r → ActsShort (right r)) → ActsShort rest → ActsShort (combined p op left right e (Ref x) rest)
combined_short p (Plain op) left right e x rest h k go ok = go _ ((tt, tt, tt), ok)
combined_short p AndThen left right e x rest h k go ok = (no_item x left h, ((λ l. (tt, tt, tt), go _ (no_item x e k, tt)), ok))
combined_short p OrElse left right e x rest h k go ok = (no_item x left h, ((λ l. (tt, tt, tt), go _ (no_item x e k, tt)), ok))

-- ---- arguments in groups ----

first_few : (m : ℕ) (es : Formulas) → many (first m es) ≤ m
first_few m NoFormula = omega arith
first_few zero (AndFormula e es) = omega arith
first_few (suc m) (AndFormula e es) = omega (arith, first_few m es)

further_short : (p : Place) (f x : Text) (m : ℕ) (es : Formulas) (rest : Routes) → ActsShort rest → ActsShort (further p f (Ref x) m es rest)
further_short p f x m NoFormula rest ok = ok
further_short p f x zero (AndFormula e es) rest ok =
    ((few_operands (AndFormula (Ref x) (AndFormula e (first 58 es))) (omega (arith, first_few 58 es)), tt, tt), further_short p f x 58 es rest ok)
further_short p f x (suc m) (AndFormula e es) rest ok = further_short p f x m es rest ok

gathered_short : (p : Place) (f x : Text) (es : Formulas) (rest : Routes) → ActsShort rest → ActsShort (gathered p f (Ref x) es rest)
gathered_short p f x es rest ok = ((few_operands (first 60 es) (omega (arith, first_few 60 es)), tt, tt), further_short p f x 60 es rest ok)

-- ---- expressions ----

module _ (home : ℕ → Text) (temp : Kind → ℕ → Text) (callee : ℕ → Text) where
  pub value_no_item : (e : Expr) (n : ℕ) → IsNoItem (formula home temp callee e n)
  value_no_item (Int z) n = tt
  value_no_item (Truth b) n = tt
  value_no_item (At x) n = tt
  value_no_item (Call v k es) n = tt
  value_no_item (Known g es) n = tt
  value_no_item (Group a) n = value_no_item a n
  value_no_item (Plus a) n = tt
  value_no_item (Minus a) n = tt
  value_no_item (Not a) n = tt
  value_no_item (Up x) n = tt
  value_no_item (Down x) n = tt
  value_no_item (Pair op a b) n = tt
  value_no_item (Assign None x e) n = value_no_item e n
  value_no_item (Assign (Some op) x e) n = tt

  -- a name gets a value
  pub value_short : (x : Text) (e : Expr) (n : ℕ) → Short (f66.Assign (Ref x) (formula home temp callee e n))
  value_short x e n = no_item x (formula home temp callee e n) (value_no_item e n)

  few_passed : (es : Exprs) (n : ℕ) → count es ≤ 32 → many (actuals home temp callee es n) ≤ 32
  few_passed es n le = omega (le, many_actuals home temp callee es n, arith)

  pub few_actuals : (es : Exprs) (n : ℕ) → count es ≤ 32 → many (actuals home temp callee es n) ≤ 100
  few_actuals es n le = omega (few_passed es n le, arith)

  -- each call has at most 32 actuals
  module _ (M : ℕ → Kind → Type 0) (G : ℕ → Kind → ℕ → Type 0) (functions : (v : ℕ) (k : Kind) (c : ℕ) → G v k c → c ≤ 32) where
    abbrev Ahead : Expr → Type 0
    Ahead e = Scalars M G e → (p : Place) (n : ℕ) (rest : Routes) → ActsShort rest → ActsShort (routes home temp callee p e n rest)

    called_short : (x f : Text) (v : ℕ) (k : Kind) (es : Exprs) (n : ℕ) → G v k (count es) → Short (f66.Assign (Ref x) (f66.Item f (or_one (actuals home temp callee es n))))
    called_short x f v k es n g =
        (few_operands (or_one (actuals home temp callee es n)) (or_one_few (actuals home temp callee es n) (few_passed es n (functions v k (count es) g))), tt, tt)

    mutual
      pub expr_short : (e : Expr) → Ahead e
      expr_short (Int z) s p n rest ok = ok
      expr_short (Truth b) s p n rest ok = ok
      expr_short (At x) s p n rest ok = ((tt, tt, tt), ok)
      expr_short (Call v k es) s p n rest ok = actuals_short es s.1 p n _ (called_short (temp k (n + made_for es)) (callee v) v k es n s.0, ok)
      expr_short (Known g es) s p n rest ok = exprs_short es s p n _ (gathered_short p (intrinsic_name g) (temp Integer (n + made_in es)) (formulas home temp callee es n) rest ok)
      expr_short (Group a) s p n rest ok = expr_short a s p n rest ok
      expr_short (Plus a) s p n rest ok = expr_short a s p n _ ((tt, tt, tt), ok)
      expr_short (Minus a) s p n rest ok = expr_short a s p n _ ((tt, tt, tt), ok)
      expr_short (Not a) s p n rest ok = expr_short a s p n _ ((tt, tt, tt), ok)
      expr_short (Up x) s p n rest ok = ((tt, tt, tt), ((tt, tt, tt), ((tt, tt, tt), ok)))
      expr_short (Down x) s p n rest ok = ((tt, tt, tt), ((tt, tt, tt), ((tt, tt, tt), ok)))
      expr_short (Pair op a b) s p n rest ok =
          expr_short a s.1 p n _
          (combined_short p op (formula home temp callee a n) (λ r. routes home temp callee p b (n + made a) r) (formula home temp callee b (n + made a)) _ rest (value_no_item a n) (value_no_item b (n + made a)) (λ r more. expr_short b s.2 p (n + made a) r more) ok)
      expr_short (Assign None x e) s p n rest ok = expr_short e s.1 p n _ (value_short (home (variable_of x)) e n, ok)
      expr_short (Assign (Some op) x e) s p n rest ok =
          ((tt, tt, tt), combined_short p op _ (λ r. routes home temp callee p e (n + 1) r) (formula home temp callee e (n + 1)) _ _ tt (value_no_item e (n + 1)) (λ r more. expr_short e s.2 p (n + 1) r more) ((tt, tt, tt), ok))

      exprs_short : (es : Exprs) → AllScalars M G es → (p : Place) (n : ℕ) (rest : Routes) → ActsShort rest → ActsShort (all_routes home temp callee p es n rest)
      exprs_short NoExpr s p n rest ok = ok
      exprs_short (AndExpr e es) s p n rest ok = expr_short e s.0 p n _ (exprs_short es s.1 p (n + made e) rest ok)

      pub actuals_short : (es : Exprs) → AllScalars M G es → (p : Place) (n : ℕ) (rest : Routes) → ActsShort rest → ActsShort (actual_routes home temp callee p es n rest)
      actuals_short NoExpr s p n rest ok = ok
      actuals_short (AndExpr e es) s p n rest ok =
          by_actual home temp callee (λ e1. Ahead e1 → Scalars M G e1 → ActsShort (actual_routes home temp callee p (AndExpr e1 es) n rest)) (λ x go s1. actuals_short es s.1 p n rest ok)
          (λ e1 no go s1. subst ActsShort (sym (no.goes p es n rest)) (go s1 p n _ (actuals_short es s.1 p (n + made e1) rest ok))) e (expr_short e) s.0
