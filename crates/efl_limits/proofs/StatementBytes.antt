-- The statements of a body have at most 507 bytes for each unit of its size, which also stand for three labels that are made.
use Rattle.std.proofs.Common.{◌≡◌, ◌≤◌, ℕ, ◌+◌, ◌*◌, arith, ℤ, pos, refl, true, false, List, [], ◌∷◌, length, Option, Some, None}
use Rattle.ground.specs.declared.place.Place.{Place}
use Rattle.ground.specs.declared.value.Kind.{Kind}
use Rattle.f66_tree.specs.declared.editing.Way.TheVariants.{Reading, Writing}
use Rattle.f66_tree.specs.Syntax as f66
use Rattle.f66_tree.specs.Syntax.{Text, Formula}
use Rattle.efl_tree.specs.declared.statement.LoopKind.TheVariants as loop_kinds
use Rattle.efl_program.specs.Typed as efl
use Rattle.efl_program.specs.Typed.{Expr, WriteItem, Value, Skip, Chars, ReadItem, Take, Pass, Action, Evaluate, Invoke, Stmt, Empty, Act, If, IfElse, While, For, Repeat, RepeatUntil, Do, Switch, Return, Goto, Write, Read, Stmts, NoStmt, AndStmt, Clauses, NoClause, AndClause}
use Rattle.efl_program.specs.Meaning.{kind_by, written_by, read_by}
use Rattle.plain_decks.specs.Few.{entries_of}
use Rattle.routes.specs.Routes.{Route, Plain, BreakIf, Break, Ring, Cycle, Transfer, Routes, NoRoute, AndRoute, only}
use Rattle.efl_routes.specs.Expressions.{made, sets, formula, actuals, routes}
use Rattle.efl_routes.specs.Statements.{Around, Other, Behind, Next, made_if_any, act_routes, if_any, unless_any, first_if_any, limit_routes, step_routes, value_or_one, unit_par, item_routes, entries, read_entries, store_routes, case_routes, route, all_route, clause_route, default_route}
use Rattle.efl_limits.specs.Sizes.{size, size_if, act_size, act_size_if, items_size, taken_size, stmt_size, stmts_size, clauses_size}
use Rattle.efl_limits.proofs.ExpressionBytes.{set_bytes, many_actuals, expr_bytes, actuals_bytes}
use Rattle.efl_limits.proofs.RouteBytes.{route_bytes, all_bytes}

-- at most so many for the clauses that have constants, and for the default
abbrev chosen : Clauses → ℕ
chosen NoClause = 0
chosen (AndClause [] fallback ss p cs) = chosen cs
chosen (AndClause (z ∷ zs) fallback ss p cs) = 627 + (60 * length (z ∷ zs) + (507 * stmts_size ss + chosen cs))

abbrev fallen : Clauses → ℕ
fallen NoClause = 0
fallen (AndClause zs true ss p cs) = 507 * stmts_size ss
fallen (AndClause zs false ss p cs) = fallen cs

both_bytes : (cs : Clauses) → chosen cs + fallen cs ≤ 507 * clauses_size cs
both_bytes NoClause = omega arith
both_bytes (AndClause [] true ss p cs) = omega (arith, both_bytes cs)
both_bytes (AndClause [] false ss p cs) = omega (arith, both_bytes cs)
both_bytes (AndClause (z ∷ zs) true ss p cs) = omega (arith, both_bytes cs)
both_bytes (AndClause (z ∷ zs) false ss p cs) = omega (arith, both_bytes cs)

module _ (home : ℕ → Text) (temp : Kind → ℕ → Text) (callee : ℕ → Text) (label : Text → ℕ) (own : Text) where
  abbrev value : Expr → ℕ → Formula
  value e n = formula home temp callee e n

  -- ---- parts of statements ----

  act_few : (p : Place) (a : Action) (n : ℕ) (rest : Routes) → all_bytes (act_routes home temp callee label own p a n rest) ≤ 507 * act_size a + all_bytes rest
  act_few p (Evaluate e) n rest = omega (arith, expr_bytes home temp callee p e n rest)
  act_few p (Invoke v es) n rest =
      omega (arith, actuals_bytes home temp callee p es n (AndRoute (Plain p (f66.Invoke (callee v) (actuals home temp callee es n))) rest), many_actuals home temp callee es n)

  any_few : (p : Place) (o : Option Action) (n : ℕ) (rest : Routes) → all_bytes (if_any home temp callee label own p o n rest) ≤ 507 * act_size_if o + all_bytes rest
  any_few p None n rest = omega arith
  any_few p (Some a) n rest = act_few p a n rest

  -- 60 bytes more are left for what tests an expression
  test_few : (p : Place) (e : Expr) (n : ℕ) (r : Route) (rest : Routes) → route_bytes r ≡ 60 → all_bytes (routes home temp callee p e n (AndRoute r rest)) ≤ 507 * size e + all_bytes rest
  test_few p e n r rest same = omega (arith, same, expr_bytes home temp callee p e n (AndRoute r rest))

  unless_few : (p : Place) (o : Option Expr) (n : ℕ) (rest : Routes) → all_bytes (unless_any home temp callee label own p o n rest) ≤ 507 * size_if o + all_bytes rest
  unless_few p None n rest = omega arith
  unless_few p (Some e) n rest = test_few p e n (BreakIf p (f66.Not (value e n)) 0) rest refl

  first_few : (p : Place) (o : Option Expr) (n : ℕ) (rest : Routes) → all_bytes (first_if_any home temp callee label own p o n rest) ≤ 507 * size_if o + all_bytes rest
  first_few p None n rest = omega arith
  first_few p (Some e) n rest = omega (arith, expr_bytes home temp callee p e n rest)

  -- each value is put into a temporary, and written
  items_few : (p : Place) (items : List WriteItem) (n : ℕ) (rest : Routes) →
      all_bytes (item_routes home temp callee label own p items n rest) + 15 * entries_of (entries home temp callee label own items n) ≤ 507 * items_size items + all_bytes rest
  items_few p [] n rest = omega arith
  items_few p (Value e d ∷ items) n rest =
      let t = f66.Ref (temp (kind_by d) (n + made e)) in
      let others = item_routes home temp callee label own p items (n + (made e + 1)) rest in
      omega (arith, expr_bytes home temp callee p e n (AndRoute (sets p t (value e n)) others), set_bytes home temp callee t e n, items_few p items (n + (made e + 1)) rest)
  items_few p (Skip i ∷ items) n rest = items_few p items n rest
  items_few p (Chars t ∷ items) n rest = items_few p items n rest

  store_few : (p : Place) (items : List ReadItem) (n : ℕ) → all_bytes (store_routes home temp callee label own p items n) + 15 * entries_of (read_entries home temp callee label own items n) ≤ 507 * taken_size items
  store_few p [] n = omega arith
  store_few p (Take x d ∷ items) n = omega (arith, store_few p items (n + 1))
  store_few p (Pass i ∷ items) n = store_few p items n

  case_few : (p : Place) (v : Formula) (zs : List ℤ) → all_bytes (case_routes home temp callee label own p v zs) ≡ 60 + 60 * length zs
  case_few p v [] = omega arith
  case_few p v (z ∷ zs) = omega (arith, case_few p v zs)

  -- ---- statements ----

  mutual
    stmt_few : (s : Stmt) (rs : List Around) (n : ℕ) → route_bytes (route home temp callee label own s rs n) ≤ 507 * stmt_size s
    stmt_few (Empty p) rs n = omega arith
    stmt_few (efl.Block p ss) rs n = stmts_few ss rs n
    stmt_few (Act p a) rs n = omega (arith, act_few p a n NoRoute)
    stmt_few (If p e s) rs n =
        let inner = route home temp callee label own s (Other ∷ rs) n in
        omega (arith, expr_bytes home temp callee p e n (only (Ring p (AndRoute (BreakIf p (f66.Not (value e n)) 0) (only inner)))), stmt_few s (Other ∷ rs) n)
    stmt_few (IfElse p e s t) rs n =
        let inner = route home temp callee label own s (Other ∷ Other ∷ rs) n in
        let other = route home temp callee label own t (Other ∷ rs) n in
        omega (
          arith,
          expr_bytes home temp callee p e n (only (Ring p (AndRoute (Ring p (AndRoute (BreakIf p (f66.Not (value e n)) 0) (AndRoute inner (only (Break p 1))))) (only other)))),
          stmt_few s (Other ∷ Other ∷ rs) n,
          stmt_few t (Other ∷ rs) n,
        )
    stmt_few (While p e s) rs n = omega (arith, unless_few p (Some e) n NoRoute, stmt_few s (Next loop_kinds.While ∷ Behind loop_kinds.While ∷ rs) n)
    stmt_few (For p a e b s) rs n =
        let inner = route home temp callee label own s (Next loop_kinds.For ∷ Behind loop_kinds.For ∷ rs) n in
        omega (
          arith,
          any_few p a n (only (Cycle p (unless_any home temp callee label own p e n NoRoute) (AndRoute (Ring p (only inner)) (if_any home temp callee label own p b n NoRoute)))),
          unless_few p e n NoRoute,
          any_few p b n NoRoute,
          stmt_few s (Next loop_kinds.For ∷ Behind loop_kinds.For ∷ rs) n,
        )
    stmt_few (Repeat p s) rs n = omega (arith, stmt_few s (Next loop_kinds.Repeat ∷ Behind loop_kinds.Repeat ∷ rs) n)
    stmt_few (RepeatUntil p s e q) rs n = omega (arith, test_few q e n (BreakIf q (value e n) 0) NoRoute refl, stmt_few s (Next loop_kinds.Repeat ∷ Behind loop_kinds.Repeat ∷ rs) n)
    stmt_few (Do p v a z d s) rs n =
        let m = n + made z + made_if_any d in
        let inner = route home temp callee label own s (Next loop_kinds.Do ∷ Behind loop_kinds.Do ∷ rs) m in
        let start = f66.Ref (home v) in
        let turns = only (Cycle p (limit_routes home temp callee label own p v (value z n) m) (AndRoute (Ring p (only inner)) (step_routes home temp callee label own p v (value_or_one home temp callee label own d (n + made z)) m))) in
        let begun = AndRoute (sets p start (value a m)) turns in
        let stepped = first_if_any home temp callee label own p d (n + made z) (routes home temp callee p a m begun) in
        omega (
          arith,
          expr_bytes home temp callee p z n stepped,
          first_few p d (n + made z) (routes home temp callee p a m begun),
          expr_bytes home temp callee p a m begun,
          set_bytes home temp callee start a m,
          stmt_few s (Next loop_kinds.Do ∷ Behind loop_kinds.Do ∷ rs) m,
        )
    stmt_few (Switch p e cs) rs n =
        let v = value e n in
        let inner = clause_route home temp callee label own p v cs (default_route home temp callee label own cs) (Behind loop_kinds.Switch ∷ rs) (n + made e) in
        omega (
          arith,
          expr_bytes home temp callee p e n (only (Ring p (only inner))),
          clause_few p v cs (default_route home temp callee label own cs) (fallen cs) (λ rs m. default_few cs rs m) (Behind loop_kinds.Switch ∷ rs) (n + made e),
          both_bytes cs,
        )
    stmt_few (efl.Break p i o) rs n = omega arith
    stmt_few (efl.Next p i o) rs n = omega arith
    stmt_few (Return p None) rs n = omega arith
    stmt_few (Return p (Some e)) rs n =
        omega (arith, expr_bytes home temp callee p e n (AndRoute (sets p (f66.Ref own) (value e n)) (only (Plain p f66.Return))), set_bytes home temp callee (f66.Ref own) e n)
    stmt_few (Goto p l) rs n = omega arith
    stmt_few (Write p u items) rs n =
        let m = n + made_if_any u in
        let last = only (Transfer p Writing (unit_par home temp callee label own (pos 6) u n) (written_by items) (entries home temp callee label own items m)) in
        omega (arith, first_few p u n (item_routes home temp callee label own p items m last), items_few p items m last)
    stmt_few (Read p u items) rs n =
        let m = n + made_if_any u in
        let stores = store_routes home temp callee label own p items m in
        let last = AndRoute (Transfer p Reading (unit_par home temp callee label own (pos 5) u n) (read_by items) (read_entries home temp callee label own items m)) stores in
        omega (arith, first_few p u n last, store_few p items m)
    stmt_few (efl.Labelled l p s) rs n = omega (arith, stmt_few s rs n)

    pub stmts_few : (ss : Stmts) (rs : List Around) (n : ℕ) → all_bytes (all_route home temp callee label own ss rs n) ≤ 507 * stmts_size ss
    stmts_few NoStmt rs n = omega arith
    stmts_few (AndStmt s ss) rs n = omega (arith, stmt_few s rs n, stmts_few ss rs n)

    clause_few : (q : Place) (v : Formula) (cs : Clauses) (other : List Around → ℕ → Route) (k : ℕ) → ((rs : List Around) (n : ℕ) → route_bytes (other rs n) ≤ k) → (rs : List Around) (n : ℕ) →
        route_bytes (clause_route home temp callee label own q v cs other rs n) ≤ chosen cs + k
    clause_few q v NoClause other k h rs n = omega (arith, h rs n)
    clause_few q v (AndClause [] fallback ss p cs) other k h rs n = clause_few q v cs other k h rs n
    clause_few q v (AndClause (z ∷ zs) fallback ss p cs) other k h rs n =
        omega (arith, case_few q v (z ∷ zs), stmts_few ss (Other ∷ Other ∷ rs) n, clause_few q v cs other k h (Other ∷ rs) n)

    default_few : (cs : Clauses) (rs : List Around) (n : ℕ) → route_bytes (default_route home temp callee label own cs rs n) ≤ fallen cs
    default_few NoClause rs n = omega arith
    default_few (AndClause zs true ss p cs) rs n = stmts_few ss rs n
    default_few (AndClause zs false ss p cs) rs n = default_few cs rs n
