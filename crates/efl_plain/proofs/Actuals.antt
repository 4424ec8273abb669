-- The actuals of a lowered call: each is a place or a value that was put into a temporary before.
use Rattle.std.proofs.Common.{◌≡◌, ℕ, ◌+◌, refl, ap, arith}
use Rattle.ground.specs.declared.place.Place.{Place}
use Rattle.ground.specs.declared.value.Kind.{Kind}
use Rattle.f66_tree.specs.Syntax as f66
use Rattle.f66_tree.specs.Syntax.{Text, AndFormula}
use Rattle.f66_program.specs.Calls.{many}
use Rattle.efl_program.specs.Typed.{Expr, Int, Truth, At, Call, Known, Group, Plus, Minus, Not, Up, Down, Pair, Assign, Exprs, NoExpr, AndExpr, Site}
use Rattle.routes.specs.Routes.{Routes}
use Rattle.efl_routes.specs.Expressions.{made, made_for, count, formula, actuals, routes, actual_routes}

module _ (home : ℕ → Text) (temp : Kind → ℕ → Text) (callee : ℕ → Text) where
  -- an actual that is no place
  pub record IsNoPlace (e : Expr) : Type 0 where
    pub makes : (es : Exprs) → made_for (AndExpr e es) ≡ made e + made_for es
    pub passes : (es : Exprs) (n : ℕ) → actuals home temp callee (AndExpr e es) n ≡ AndFormula (f66.Group (formula home temp callee e n)) (actuals home temp callee es (n + made e))
    pub goes : (p : Place) (es : Exprs) (n : ℕ) (rest : Routes) → actual_routes home temp callee p (AndExpr e es) n rest ≡ routes home temp callee p e n (actual_routes home temp callee p es (n + made e) rest)

  pub by_actual : (P : Expr → Type 0) → ((x : Site) → P (At x)) → ((e : Expr) → IsNoPlace e → P e) → (e : Expr) → P e
  by_actual P f g (At x) = f x
  by_actual P f g (Int z) = g (Int z) (record { makes = λ es. refl; passes = λ es n. refl; goes = λ p es n rest. refl })
  by_actual P f g (Truth b) = g (Truth b) (record { makes = λ es. refl; passes = λ es n. refl; goes = λ p es n rest. refl })
  by_actual P f g (Call v k as') = g (Call v k as') (record { makes = λ es. refl; passes = λ es n. refl; goes = λ p es n rest. refl })
  by_actual P f g (Known i as') = g (Known i as') (record { makes = λ es. refl; passes = λ es n. refl; goes = λ p es n rest. refl })
  by_actual P f g (Group a) = g (Group a) (record { makes = λ es. refl; passes = λ es n. refl; goes = λ p es n rest. refl })
  by_actual P f g (Plus a) = g (Plus a) (record { makes = λ es. refl; passes = λ es n. refl; goes = λ p es n rest. refl })
  by_actual P f g (Minus a) = g (Minus a) (record { makes = λ es. refl; passes = λ es n. refl; goes = λ p es n rest. refl })
  by_actual P f g (Not a) = g (Not a) (record { makes = λ es. refl; passes = λ es n. refl; goes = λ p es n rest. refl })
  by_actual P f g (Up x) = g (Up x) (record { makes = λ es. refl; passes = λ es n. refl; goes = λ p es n rest. refl })
  by_actual P f g (Down x) = g (Down x) (record { makes = λ es. refl; passes = λ es n. refl; goes = λ p es n rest. refl })
  by_actual P f g (Pair op a b) = g (Pair op a b) (record { makes = λ es. refl; passes = λ es n. refl; goes = λ p es n rest. refl })
  by_actual P f g (Assign op x a) = g (Assign op x a) (record { makes = λ es. refl; passes = λ es n. refl; goes = λ p es n rest. refl })

  pub many_actuals : (es : Exprs) (n : ℕ) → many (actuals home temp callee es n) ≡ count es
  many_actuals NoExpr n = refl
  many_actuals (AndExpr e es) n =
      by_actual (λ d. many (actuals home temp callee (AndExpr d es) n) ≡ 1 + count es) (λ x. let rest = many_actuals es n in omega (rest, arith))
      (λ d no. let all = ap many (no.passes es n) in let rest = many_actuals es (n + made d) in omega (all, rest, arith)) e
