-- The statements of an expression have at most 507 bytes for each unit of its size, less 90.
use Rattle.std.proofs.Common.{◌≡◌, ◌≤◌, ℕ, zero, suc, ◌+◌, ◌*◌, arith, Some, None, refl}
use Rattle.ground.specs.declared.place.Place.{Place}
use Rattle.ground.specs.declared.value.Kind.{Kind}
use Rattle.ground.specs.declared.value.Kind.TheVariants.{Integer, Logical}
use Rattle.f66_tree.specs.Syntax as f66
use Rattle.f66_tree.specs.Syntax.{Text, Formula, Formulas, NoFormula, AndFormula}
use Rattle.f66_names.specs.Uses.{many}
use Rattle.efl_program.specs.Typed.{Op, Plain, AndThen, OrElse, Expr, Int, Truth, At, Call, Known, Group, Plus, Minus, Not, Up, Down, Pair, Assign, Exprs, NoExpr, AndExpr}
use Rattle.efl_program.specs.Places.{sort_of, kind_of}
use Rattle.plain_decks.specs.Bytes.{act_bytes}
use Rattle.routes.specs.Routes.{Routes, AndRoute, only}
use Rattle.efl_routes.specs.Expressions.{kind_by, intrinsic_name, made, made_in, made_for, count, or_one, sets, first, further, gathered, combined, made_up, site_formula, formula, formulas, actuals, routes, all_routes, actual_routes}
use Rattle.efl_plain.proofs.ActsOfExpressions.{many_formulas}
use Rattle.efl_limits.specs.Sizes.{size, sizes}
use Rattle.efl_limits.proofs.RouteBytes.{all_bytes}

-- ---- arguments in groups ----

-- 90 bytes for each argument behind the first m, and 75 for each of these
further_bytes : (p : Place) (x : Text) (t : Formula) (m : ℕ) (es : Formulas) (rest : Routes) → all_bytes (further p x t m es rest) + 15 * many (first m es) ≤ 90 * many es + all_bytes rest
further_bytes p x t m NoFormula rest = omega arith
further_bytes p x t zero (AndFormula e es) rest = omega (arith, further_bytes p x t 58 es rest)
further_bytes p x t (suc m) (AndFormula e es) rest = omega (arith, further_bytes p x t m es rest)

gathered_bytes : (p : Place) (x : Text) (t : Formula) (es : Formulas) (rest : Routes) → all_bytes (gathered p x t es rest) ≤ 60 + 90 * many es + all_bytes rest
gathered_bytes p x t es rest = omega (arith, further_bytes p x t 60 es rest)

or_one_many : (es : Formulas) → many (or_one es) ≤ 1 + many es
or_one_many NoFormula = omega arith
or_one_many (AndFormula e es) = omega arith

-- ---- operators ----

combined_bytes : (p : Place) (op : Op) (left : Formula) (right : Routes → Routes) (e t : Formula) (rest : Routes) (k : ℕ) → act_bytes (f66.Assign t left) ≡ 60 → act_bytes (f66.Assign t e) ≡ 60 →
    ((r : Routes) → all_bytes (right r) ≤ k + all_bytes r) → all_bytes (combined p op left right e t rest) ≤ k + 349 + all_bytes rest
combined_bytes p (Plain op) left right e t rest k one two h = omega (arith, h (AndRoute (sets p t (f66.Pair op left e)) rest))
combined_bytes p AndThen left right e t rest k one two h = omega (arith, one, two, h (only (sets p t e)))
combined_bytes p OrElse left right e t rest k one two h = omega (arith, one, two, h (only (sets p t e)))

module _ (home : ℕ → Text) (temp : Kind → ℕ → Text) (callee : ℕ → Text) where
  abbrev value : Expr → ℕ → Formula
  value e n = formula home temp callee e n

  -- no formula that has a value is a reference
  pub set_bytes : (t : Formula) (e : Expr) (n : ℕ) → act_bytes (f66.Assign t (value e n)) ≡ 60
  set_bytes t (Int z) n = refl
  set_bytes t (Truth b) n = refl
  set_bytes t (At x) n = refl
  set_bytes t (Call v k es) n = refl
  set_bytes t (Known g es) n = refl
  set_bytes t (Group a) n = set_bytes t a n
  set_bytes t (Plus a) n = refl
  set_bytes t (Minus a) n = refl
  set_bytes t (Not a) n = refl
  set_bytes t (Up x) n = refl
  set_bytes t (Down x) n = refl
  set_bytes t (Pair op a b) n = refl
  set_bytes t (Assign None x e) n = set_bytes t e n
  set_bytes t (Assign (Some op) x e) n = refl

  pub many_actuals : (es : Exprs) (n : ℕ) → many (actuals home temp callee es n) ≡ count es
  many_actuals NoExpr n = refl
  many_actuals (AndExpr (At x) es) n = omega (arith, many_actuals es n)
  many_actuals (AndExpr e es) n = omega (arith, many_actuals es (n + made e))

  mutual
    pub expr_bytes : (p : Place) (e : Expr) (n : ℕ) (rest : Routes) → all_bytes (routes home temp callee p e n rest) + 90 ≤ 507 * size e + all_bytes rest
    expr_bytes p (Int z) n rest = omega arith
    expr_bytes p (Truth b) n rest = omega arith
    expr_bytes p (At x) n rest = omega arith
    expr_bytes p (Call v k es) n rest =
        let call = actuals home temp callee es n in
        let last = AndRoute (sets p (made_up home temp callee k (n + made_for es)) (f66.Item (callee v) (or_one call))) rest in
        omega (arith, actuals_bytes p es n last, or_one_many call, many_actuals es n)
    expr_bytes p (Known g es) n rest =
        let t = made_up home temp callee Integer (n + made_in es) in
        let values = formulas home temp callee es n in
        omega (arith, exprs_bytes p es n (gathered p (intrinsic_name g) t values rest), gathered_bytes p (intrinsic_name g) t values rest, many_formulas home temp callee es n)
    expr_bytes p (Group a) n rest = omega (arith, expr_bytes p a n rest)
    expr_bytes p (Plus a) n rest = omega (arith, expr_bytes p a n (AndRoute (sets p (made_up home temp callee Integer (n + made a)) (f66.Plus (value a n))) rest))
    expr_bytes p (Minus a) n rest = omega (arith, expr_bytes p a n (AndRoute (sets p (made_up home temp callee Integer (n + made a)) (f66.Minus (value a n))) rest))
    expr_bytes p (Not a) n rest = omega (arith, expr_bytes p a n (AndRoute (sets p (made_up home temp callee Logical (n + made a)) (f66.Not (value a n))) rest))
    expr_bytes p (Up x) n rest = omega arith
    expr_bytes p (Down x) n rest = omega arith
    expr_bytes p (Pair op a b) n rest =
        let t = made_up home temp callee (kind_by op) (n + made a + made b) in
        let right = λ (r : Routes). routes home temp callee p b (n + made a) r in
        omega (
          arith,
          expr_bytes p a n (combined p op (value a n) right (value b (n + made a)) t rest),
          combined_bytes p op (value a n) right (value b (n + made a)) t rest (507 * size b) (set_bytes t a n) (set_bytes t b (n + made a)) (λ r. omega (arith, expr_bytes p b (n + made a) r)),
        )
    expr_bytes p (Assign None x e) n rest = omega (arith, expr_bytes p e n (AndRoute (sets p (site_formula home temp callee x) (value e n)) rest), set_bytes (site_formula home temp callee x) e n)
    expr_bytes p (Assign (Some op) x e) n rest =
        let t = made_up home temp callee (kind_by op) (n + 1 + made e) in
        let left = made_up home temp callee (kind_of (sort_of x)) n in
        let last = AndRoute (sets p (site_formula home temp callee x) t) rest in
        omega (arith, combined_bytes p op left (λ r. routes home temp callee p e (n + 1) r) (value e (n + 1)) t last (507 * size e) refl (set_bytes t e (n + 1)) (λ r. omega (arith, expr_bytes p e (n + 1) r)))

    pub exprs_bytes : (p : Place) (es : Exprs) (n : ℕ) (rest : Routes) → all_bytes (all_routes home temp callee p es n rest) + 90 * count es ≤ 507 * sizes es + all_bytes rest
    exprs_bytes p NoExpr n rest = omega arith
    exprs_bytes p (AndExpr e es) n rest = omega (arith, expr_bytes p e n (all_routes home temp callee p es (n + made e) rest), exprs_bytes p es (n + made e) rest)

    pub actuals_bytes : (p : Place) (es : Exprs) (n : ℕ) (rest : Routes) → all_bytes (actual_routes home temp callee p es n rest) + 90 * count es ≤ 507 * sizes es + all_bytes rest
    actuals_bytes p NoExpr n rest = omega arith
    actuals_bytes p (AndExpr (At x) es) n rest = omega (arith, actuals_bytes p es n rest)
    actuals_bytes p (AndExpr e es) n rest = omega (arith, expr_bytes p e n (actual_routes home temp callee p es (n + made e) rest), actuals_bytes p es (n + made e) rest)
