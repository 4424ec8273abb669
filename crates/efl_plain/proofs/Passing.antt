-- What passes through the routes of expressions and acts: where it holds of the routes that come next, it holds with theirs before them.
use Rattle.std.proofs.Common.{ℕ, suc, ◌+◌, List, [], ◌∷◌, Option, Some, None}
use Rattle.std.specs.Prelude.{⊤}
use Rattle.ground.specs.declared.place.Place.{Place}
use Rattle.ground.specs.declared.value.Kind.{Kind}
use Rattle.f66_tree.specs.Syntax as f66
use Rattle.f66_tree.specs.Syntax.{Text, Formula, Formulas, NoFormula, AndFormula}
use Rattle.efl_program.specs.Typed.{Op, Plain, AndThen, OrElse, Expr, Int, Truth, At, Call, Known, Group, Plus, Minus, Not, Up, Down, Pair, Assign, Exprs, NoExpr, AndExpr, WriteItem, Value, Skip, Chars, ReadItem, Take, Pass, Action, Evaluate, Invoke}
use Rattle.routes.specs.Routes as routes
use Rattle.routes.specs.Routes.{BreakIf, Ring, Routes, NoRoute, AndRoute}
use Rattle.efl_routes.specs.Expressions as ex
use Rattle.efl_routes.specs.Expressions.{combined, gathered, sets}
use Rattle.efl_routes.proofs.Gathering.{EachFormula, gathered_hold}
use Rattle.efl_routes.specs.Statements as st

-- it passes an assignment, a call, a test in a ring and a ring with a test, in so many rings
pub record Passes (Q : Routes → ℕ → Type 0) : Type 0 where
  pub ends : (d : ℕ) → Q NoRoute d
  pub set : (p : Place) (t e : Formula) (rest : Routes) (d : ℕ) → Q rest d → Q (AndRoute (sets p t e) rest) d
  pub call : (p : Place) (x : Text) (es : Formulas) (rest : Routes) (d : ℕ) → Q rest d → Q (AndRoute (routes.Plain p (f66.Invoke x es)) rest) d
  pub test : (p : Place) (c : Formula) (rest : Routes) (d : ℕ) → Q rest (suc d) → Q (AndRoute (BreakIf p c 0) rest) (suc d)
  pub ring : (p : Place) (inner rest : Routes) (d : ℕ) → Q inner (suc d) → Q rest d → Q (AndRoute (Ring p inner) rest) d

module _ (Q : Routes → ℕ → Type 0) (passes : Passes Q) where
  combined_passes : (p : Place) (op : Op) (left : Formula) (right : Routes → Routes) (e t : Formula) (rest : Routes) (d : ℕ) → ((r : Routes) (k : ℕ) → Q r k → Q (right r) k) → Q rest d →
      Q (combined p op left right e t rest) d
  combined_passes p (Plain op) left right e t rest d through h = through _ d (passes.set p t (f66.Pair op left e) rest d h)
  combined_passes p AndThen left right e t rest d through h =
      passes.set p t left _ d (passes.ring p _ rest d (passes.test p _ _ d (through _ (suc d) (passes.set p t e NoRoute (suc d) (passes.ends (suc d))))) h)
  combined_passes p OrElse left right e t rest d through h =
      passes.set p t left _ d (passes.ring p _ rest d (passes.test p _ _ d (through _ (suc d) (passes.set p t e NoRoute (suc d) (passes.ends (suc d))))) h)

  gathered_passes : (p : Place) (x : Text) (t : Formula) (es : Formulas) (rest : Routes) (d : ℕ) → Q rest d → Q (gathered p x t es rest) d
  gathered_passes p x t es rest d h = gathered_hold (λ r. Q r d) (λ e. ⊤) p x t (λ fs r k i. passes.set p t (f66.Item x fs) r d i) tt es rest (each es) h
    where
      each : (fs : Formulas) → EachFormula (λ e. ⊤) fs
      each NoFormula = tt
      each (AndFormula e fs) = (tt, each fs)

  module _ (home : ℕ → Text) (temp : Kind → ℕ → Text) (callee : ℕ → Text) where
    mutual
      pub expr_passes : (p : Place) (e : Expr) (n : ℕ) (rest : Routes) (d : ℕ) → Q rest d → Q (ex.routes home temp callee p e n rest) d
      expr_passes p (Int z) n rest d h = h
      expr_passes p (Truth b) n rest d h = h
      expr_passes p (At x) n rest d h = passes.set p _ _ rest d h
      expr_passes p (Call v k es) n rest d h = actuals_pass p es n _ d (passes.set p _ _ rest d h)
      expr_passes p (Known g es) n rest d h = exprs_pass p es n _ d (gathered_passes p _ _ (ex.formulas home temp callee es n) rest d h)
      expr_passes p (Group a) n rest d h = expr_passes p a n rest d h
      expr_passes p (Plus a) n rest d h = expr_passes p a n _ d (passes.set p _ _ rest d h)
      expr_passes p (Minus a) n rest d h = expr_passes p a n _ d (passes.set p _ _ rest d h)
      expr_passes p (Not a) n rest d h = expr_passes p a n _ d (passes.set p _ _ rest d h)
      expr_passes p (Up x) n rest d h = passes.set p _ _ _ d (passes.set p _ _ _ d (passes.set p _ _ rest d h))
      expr_passes p (Down x) n rest d h = passes.set p _ _ _ d (passes.set p _ _ _ d (passes.set p _ _ rest d h))
      expr_passes p (Pair op a b) n rest d h =
          expr_passes p a n _ d (combined_passes p op _ (λ r. ex.routes home temp callee p b (n + ex.made a) r) _ _ rest d (λ r k i. expr_passes p b (n + ex.made a) r k i) h)
      expr_passes p (Assign None x e) n rest d h = expr_passes p e n _ d (passes.set p _ _ rest d h)
      expr_passes p (Assign (Some op) x e) n rest d h =
          passes.set p _ _ _ d (combined_passes p op _ (λ r. ex.routes home temp callee p e (n + 1) r) _ _ _ d (λ r k i. expr_passes p e (n + 1) r k i) (passes.set p _ _ rest d h))

      exprs_pass : (p : Place) (es : Exprs) (n : ℕ) (rest : Routes) (d : ℕ) → Q rest d → Q (ex.all_routes home temp callee p es n rest) d
      exprs_pass p NoExpr n rest d h = h
      exprs_pass p (AndExpr e es) n rest d h = expr_passes p e n _ d (exprs_pass p es (n + ex.made e) rest d h)

      actuals_pass : (p : Place) (es : Exprs) (n : ℕ) (rest : Routes) (d : ℕ) → Q rest d → Q (ex.actual_routes home temp callee p es n rest) d
      actuals_pass p NoExpr n rest d h = h
      actuals_pass p (AndExpr (At x) es) n rest d h = actuals_pass p es n rest d h
      actuals_pass p (AndExpr e es) n rest d h = expr_passes p e n _ d (actuals_pass p es (n + ex.made e) rest d h)

    module _ (label : Text → ℕ) (own : Text) where
      act_passes : (p : Place) (a : Action) (n : ℕ) (rest : Routes) (d : ℕ) → Q rest d → Q (st.act_routes home temp callee label own p a n rest) d
      act_passes p (Evaluate e) n rest d h = expr_passes p e n rest d h
      act_passes p (Invoke v es) n rest d h = actuals_pass p es n _ d (passes.call p _ _ rest d h)

      pub any_act_passes : (p : Place) (a : Option Action) (n : ℕ) (rest : Routes) (d : ℕ) → Q rest d → Q (st.if_any home temp callee label own p a n rest) d
      any_act_passes p None n rest d h = h
      any_act_passes p (Some a) n rest d h = act_passes p a n rest d h

      pub unless_passes : (p : Place) (e : Option Expr) (n : ℕ) (rest : Routes) (d : ℕ) → Q rest (suc d) → Q (st.unless_any home temp callee label own p e n rest) (suc d)
      unless_passes p None n rest d h = h
      unless_passes p (Some e) n rest d h = expr_passes p e n _ (suc d) (passes.test p _ rest d h)

      pub first_passes : (p : Place) (e : Option Expr) (n : ℕ) (rest : Routes) (d : ℕ) → Q rest d → Q (st.first_if_any home temp callee label own p e n rest) d
      first_passes p None n rest d h = h
      first_passes p (Some e) n rest d h = expr_passes p e n rest d h

      pub items_pass : (p : Place) (items : List WriteItem) (n : ℕ) (rest : Routes) (d : ℕ) → Q rest d → Q (st.item_routes home temp callee label own p items n rest) d
      items_pass p [] n rest d h = h
      items_pass p (Value e f ∷ items) n rest d h = expr_passes p e n _ d (passes.set p _ _ _ d (items_pass p items (n + (ex.made e + 1)) rest d h))
      items_pass p (Skip i ∷ items) n rest d h = items_pass p items n rest d h
      items_pass p (Chars t ∷ items) n rest d h = items_pass p items n rest d h

      pub stores_pass : (p : Place) (items : List ReadItem) (n d : ℕ) → Q (st.store_routes home temp callee label own p items n) d
      stores_pass p [] n d = passes.ends d
      stores_pass p (Take x f ∷ items) n d = passes.set p _ _ _ d (stores_pass p items (n + 1) d)
      stores_pass p (Pass i ∷ items) n d = stores_pass p items n d
