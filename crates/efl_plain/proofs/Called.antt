-- The calls of a lowered procedure: the statements of its routes call what the procedure calls, with the actuals that it gives.
use Rattle.std.proofs.Common.{ℕ, ◌+◌, ◌≤◌, Bool, true, false, List, [], ◌∷◌, ◌++◌, Option, None, Some, sym, subst, arith, if◌then◌else◌, ◌&&◌}
use Rattle.std.specs.Prelude.{ℤ, pos, negsuc, neg_ℤ, int_le, int_lt}
use Rattle.ground.specs.declared.place.Place.{Place}
use Rattle.ground.specs.declared.value.Kind.{Kind}
use Rattle.ground.specs.declared.value.Kind.TheVariants.{Integer}
use Rattle.f66_tree.specs.declared.expression.Operator.TheVariants.{Eq}
use Rattle.f66_tree.specs.Syntax as f66
use Rattle.f66_tree.specs.Syntax.{Text, Formula, Formulas, NoFormula, AndFormula, Par, Constant, Named, Entries}
use Rattle.f66_tree.specs.Units.{Context}
use Rattle.f66_tree.specs.Evaluation.{Intrinsic, Sort, AnArray, AnIntrinsic, AFunction, sort_of}
use Rattle.f66_program.specs.Mentions.{Mention, mentions_of, mentions_of_all, mentions_of_par, mentions_of_entries, mentions_in, applied}
use Rattle.f66_program.specs.Calls as calls
use Rattle.f66_program.specs.Calls.{call_in}
use Rattle.efl_program.specs.Typed as efl
use Rattle.efl_program.specs.Typed.{Op, AndThen, OrElse, Expr, Int, Truth, At, Call, Known, Group, Not, Up, Down, Pair, Assign, Exprs, NoExpr, AndExpr, Action, Evaluate, Invoke, WriteItem, Value, Skip, Chars, ReadItem, Take, Pass, Stmt, Empty, Act, If, IfElse, While, For, Repeat, RepeatUntil, Do, Switch, Next, Return, Goto, Write, Read, Stmts, NoStmt, AndStmt, Clauses, NoClause, AndClause}
use Rattle.routes.specs.Routes.{Route, Routes, NoRoute}
use Rattle.routed_units.specs.Routed.{RouteActs, AllActs}
use Rattle.efl_typed.proofs.Each.{Each}
use Rattle.efl_routes.specs.Expressions.{intrinsic_name, made, made_in, made_for, count, or_one, formula, formulas, actuals, routes, all_routes, actual_routes, combined, Scalars, AllScalars}
use Rattle.efl_routes.specs.Statements.{Around, Other, route, all_route, clause_route, default_route, signed, case_routes, item_routes, entries, read_entries, store_routes, unit_par, first_if_any, unless_any, if_any, act_routes, made_if_any, Ready, AllReady, ClausesReady, FitAct, ActIfAny, ConditionIfAny, FitIfAny, ItemsFit}
use Rattle.efl_routes.specs.Statements as statements
use Rattle.efl_routes.proofs.Gathering.{EachFormula, gathered_hold}
use Rattle.efl_lowered.proofs.TypedChecks.{each_on}
use Rattle.efl_plain.specs.Matched.{ExprCalls, ExprsCall, CallsIfAny, ActionCalls, ActionIfAny, ItemsCall, StmtCalls, StmtsCall, ClausesCall}
use Rattle.efl_plain.proofs.Actuals.{by_actual}

module _ (Fine : calls.Call → Type 0) (c : Context) where
  -- a mention is no call but one that is fine
  abbrev pub IsFine : Mention → Type 0
  IsFine m = Each Fine (call_in m)

  abbrev pub AreFine : List Mention → Type 0
  AreFine ms = Each IsFine ms

  abbrev pub ActCalls : f66.Act → Type 0
  ActCalls a = AreFine (mentions_in c a)

  abbrev Fit : Routes → Type 0
  Fit rs = AllActs ActCalls rs

  abbrev FitRoute : Route → Type 0
  FitRoute r = RouteActs ActCalls r

  fine_on : (xs ys : List Mention) → AreFine xs → AreFine ys → AreFine (xs ++ ys)
  fine_on xs ys h k = each_on IsFine xs ys h k

  when_fine : (e : Formula) → AreFine (mentions_of c e) → (l : ℕ) → ActCalls (f66.When e (f66.Goto l))
  when_fine e h l = fine_on (mentions_of c e) [] h tt

  applied_fine : (x : Text) (es : Formulas) (s : Sort) → Fine (record { by_call = false; name = x; actuals = es }) → IsFine (applied x es s)
  applied_fine x es (AnArray ns) h = tt
  applied_fine x es (AnIntrinsic g) h = tt
  applied_fine x es AFunction h = (h, tt)

  or_one_fine : (es : Formulas) → AreFine (mentions_of_all c es) → AreFine (mentions_of_all c (or_one es))
  or_one_fine NoFormula h = tt
  or_one_fine (AndFormula e es) h = h

  par_fine : (u : Par) → AreFine (mentions_of_par u)
  par_fine (Constant z) = tt
  par_fine (Named x) = (tt, tt)

  transfer_fine : (u : Par) (es : Entries) → AreFine (mentions_of_entries c es) → AreFine (mentions_of_par u ++ mentions_of_entries c es)
  transfer_fine u es h = fine_on (mentions_of_par u) (mentions_of_entries c es) (par_fine u) h

  combined_fine : (p : Place) (op : Op) (left : Formula) (right : Routes → Routes) (e : Formula) (x : Text) (rest : Routes) → AreFine (mentions_of c left) → AreFine (mentions_of c e) → ((r : Routes) → Fit r → Fit (right r)) → Fit rest →
      Fit (combined p op left right e (f66.Ref x) rest)
  combined_fine p (efl.Plain op) left right e x rest h k go ok = go _ ((tt, fine_on (mentions_of c left) (mentions_of c e) h k), ok)
  combined_fine p AndThen left right e x rest h k go ok = ((tt, h), ((λ l. (tt, tt), go _ ((tt, k), tt)), ok))
  combined_fine p OrElse left right e x rest h k go ok = ((tt, h), ((λ l. (tt, tt), go _ ((tt, k), tt)), ok))

  signed_fine : (z : ℤ) → AreFine (mentions_of c (signed z))
  signed_fine z = either (int_le (negsuc 2147483646) z && int_lt z (pos 0))
    where
      either : (b : Bool) → AreFine (mentions_of c (if b then (f66.Minus (f66.Int (neg_ℤ z))) else (f66.Int z)))
      either true = tt
      either false = tt

  module _ (home : ℕ → Text) (temp : Kind → ℕ → Text) (callee : ℕ → Text) (label : Text → ℕ) (own : Text) where
    leaf_fine : (e : Expr) (n : ℕ) → AreFine (mentions_of c (formula home temp callee e n))
    leaf_fine (Int z) n = tt
    leaf_fine (Truth b) n = tt
    leaf_fine (At x) n = (tt, tt)
    leaf_fine (Call v k es) n = (tt, tt)
    leaf_fine (Known g es) n = (tt, tt)
    leaf_fine (Group a) n = leaf_fine a n
    leaf_fine (efl.Plus a) n = (tt, tt)
    leaf_fine (efl.Minus a) n = (tt, tt)
    leaf_fine (Not a) n = (tt, tt)
    leaf_fine (Up x) n = (tt, tt)
    leaf_fine (Down x) n = (tt, tt)
    leaf_fine (Pair op a b) n = (tt, tt)
    leaf_fine (Assign None x e) n = leaf_fine e n
    leaf_fine (Assign (Some op) x e) n = (tt, tt)

    abbrev FineFormula : Formula → Type 0
    FineFormula e = AreFine (mentions_of c e)

    leaves_fine : (es : Exprs) (n : ℕ) → EachFormula FineFormula (formulas home temp callee es n)
    leaves_fine NoExpr n = tt
    leaves_fine (AndExpr e es) n = (leaf_fine e n, leaves_fine es (n + made e))

    each_fine : (es : Formulas) → EachFormula FineFormula es → AreFine (mentions_of_all c es)
    each_fine NoFormula h = tt
    each_fine (AndFormula e es) h = fine_on (mentions_of c e) (mentions_of_all c es) h.0 (each_fine es h.1)

    actuals_fine : (es : Exprs) (n : ℕ) → AreFine (mentions_of_all c (actuals home temp callee es n))
    actuals_fine NoExpr n = tt
    actuals_fine (AndExpr e es) n =
        by_actual home temp callee (λ d. AreFine (mentions_of_all c (actuals home temp callee (AndExpr d es) n))) (λ x. (tt, actuals_fine es n))
        (λ d no. subst (λ fs. AreFine (mentions_of_all c fs)) (sym (no.passes es n))
        (fine_on (mentions_of c (formula home temp callee d n)) (mentions_of_all c (actuals home temp callee es (n + made d))) (leaf_fine d n) (actuals_fine es (n + made d)))) e

    module _ (M : ℕ → Kind → Type 0) (F : ℕ → Kind → ℕ → Type 0) (C : ℕ → ℕ → Type 0) (room : ℕ) (gives : Type 0) (G : ℕ → Exprs → Type 0)
        (function : (v : ℕ) (k : Kind) (es : Exprs) (n : ℕ) → F v k (count es) → AllScalars M F es → n + made_for es ≤ room → G v es → Fine (record { by_call = false; name = callee v; actuals = or_one (actuals home temp callee es n) }))
        (procedure : (v : ℕ) (es : Exprs) (n : ℕ) → C v (count es) → AllScalars M F es → n + made_for es ≤ room → G v es → Fine (record { by_call = true; name = callee v; actuals = actuals home temp callee es n }))
        (known : (g : Intrinsic) (es : Formulas) → IsFine (applied (intrinsic_name g) es (sort_of c (intrinsic_name g)))) where
      -- the routes of an expression, before others
      abbrev Ahead : Expr → Type 0
      Ahead e = Scalars M F e → ExprCalls G e → (p : Place) (n : ℕ) (rest : Routes) → n + made e ≤ room → Fit rest → Fit (routes home temp callee p e n rest)

      mutual
        expr_fine : (e : Expr) → Ahead e
        expr_fine (Int z) h g p n rest le ok = ok
        expr_fine (Truth b) h g p n rest le ok = ok
        expr_fine (At x) h g p n rest le ok = ((tt, (tt, tt)), ok)
        expr_fine (Call v k es) h g p n rest le ok =
            let bound : n + made_for es ≤ room = omega (le, arith) in
            actual_fine es h.1 g.1 p n _ bound
            ((tt, (applied_fine (callee v) (or_one (actuals home temp callee es n)) (sort_of c (callee v)) (function v k es n h.0 h.1 bound g.0), or_one_fine (actuals home temp callee es n) (actuals_fine es n))), ok)
        expr_fine (Known i es) h g p n rest le ok =
            exprs_fine es h g p n _ (omega (le, arith))
            (gathered_hold Fit FineFormula p (intrinsic_name i) (f66.Ref (temp Integer (n + made_in es))) (λ fs r k fit. ((tt, (known i fs, each_fine fs k)), fit)) (tt, tt) (formulas home temp callee es n) rest (leaves_fine es n) ok)
        expr_fine (Group a) h g p n rest le ok = expr_fine a h g p n rest le ok
        expr_fine (efl.Plus a) h g p n rest le ok = expr_fine a h g p n _ (omega (le, arith)) ((tt, leaf_fine a n), ok)
        expr_fine (efl.Minus a) h g p n rest le ok = expr_fine a h g p n _ (omega (le, arith)) ((tt, leaf_fine a n), ok)
        expr_fine (Not a) h g p n rest le ok = expr_fine a h g p n _ (omega (le, arith)) ((tt, leaf_fine a n), ok)
        expr_fine (Up x) h g p n rest le ok = ((tt, (tt, tt)), ((tt, (tt, tt)), ((tt, (tt, tt)), ok)))
        expr_fine (Down x) h g p n rest le ok = ((tt, (tt, tt)), ((tt, (tt, tt)), ((tt, (tt, tt)), ok)))
        expr_fine (Pair op a b) h g p n rest le ok =
            let bound : n + made a + made b ≤ room = omega (le, arith) in
            expr_fine a h.1 g.0 p n _ (omega (le, arith))
            (combined_fine p op (formula home temp callee a n) (λ r. routes home temp callee p b (n + made a) r) (formula home temp callee b (n + made a)) _ rest (leaf_fine a n) (leaf_fine b (n + made a)) (λ r k. expr_fine b h.2 g.1 p (n + made a) r bound k) ok)
        expr_fine (Assign None x e) h g p n rest le ok = expr_fine e h.1 g p n _ le ((tt, leaf_fine e n), ok)
        expr_fine (Assign (Some op) x e) h g p n rest le ok =
            let bound : n + 1 + made e ≤ room = omega (le, arith) in
            ((tt, (tt, tt)), combined_fine p op _ (λ r. routes home temp callee p e (n + 1) r) (formula home temp callee e (n + 1)) _ _ (tt, tt) (leaf_fine e (n + 1)) (λ r k. expr_fine e h.2 g p (n + 1) r bound k) ((tt, (tt, tt)), ok))

        exprs_fine : (es : Exprs) → AllScalars M F es → ExprsCall G es → (p : Place) (n : ℕ) (rest : Routes) → n + made_in es ≤ room → Fit rest → Fit (all_routes home temp callee p es n rest)
        exprs_fine NoExpr h g p n rest le ok = ok
        exprs_fine (AndExpr e es) h g p n rest le ok = expr_fine e h.0 g.0 p n _ (omega (le, arith)) (exprs_fine es h.1 g.1 p (n + made e) rest (omega (le, arith)) ok)

        actual_fine : (es : Exprs) → AllScalars M F es → ExprsCall G es → (p : Place) (n : ℕ) (rest : Routes) → n + made_for es ≤ room → Fit rest → Fit (actual_routes home temp callee p es n rest)
        actual_fine NoExpr h g p n rest le ok = ok
        actual_fine (AndExpr e es) h g p n rest le ok =
            by_actual home temp callee (λ d. Ahead d → Scalars M F d → ExprCalls G d → n + made_for (AndExpr d es) ≤ room → Fit (actual_routes home temp callee p (AndExpr d es) n rest)) (λ x go s t le1. actual_fine es h.1 g.1 p n rest le1 ok)
            (λ d no go s t le1.
            let all : n + (made d + made_for es) ≤ room = subst (λ m. n + m ≤ room) (no.makes es) le1 in
            subst Fit (sym (no.goes p es n rest)) (go s t p n _ (omega (all, arith)) (actual_fine es h.1 g.1 p (n + made d) rest (omega (all, arith)) ok))) e (expr_fine e) h.0 g.0 le

      -- ---- statements ----

      any_fine : (p : Place) (o : Option Expr) (n : ℕ) (rest : Routes) → FitIfAny M F C room gives o n → CallsIfAny G o → Fit rest → Fit (first_if_any home temp callee label own p o n rest)
      any_fine p None n rest h g ok = ok
      any_fine p (Some e) n rest h g ok = expr_fine e h.1.0 g p n rest h.1.1 ok

      act_fine : (p : Place) (a : Action) (n : ℕ) (rest : Routes) → FitAct M F C room gives a n → ActionCalls G a → Fit rest → Fit (act_routes home temp callee label own p a n rest)
      act_fine p (Evaluate e) n rest h g ok = expr_fine e h.0 g p n rest h.1 ok
      act_fine p (Invoke v es) n rest h g ok = actual_fine es h.1 g.1 p n _ h.2 (((procedure v es n h.0 h.1 h.2 g.0, tt), actuals_fine es n), ok)

      act_any_fine : (p : Place) (o : Option Action) (n : ℕ) (rest : Routes) → ActIfAny M F C room gives o n → ActionIfAny G o → Fit rest → Fit (if_any home temp callee label own p o n rest)
      act_any_fine p None n rest h g ok = ok
      act_any_fine p (Some a) n rest h g ok = act_fine p a n rest h g ok

      unless_fine : (p : Place) (o : Option Expr) (n : ℕ) (rest : Routes) → ConditionIfAny M F C room gives o n → CallsIfAny G o → Fit rest → Fit (unless_any home temp callee label own p o n rest)
      unless_fine p None n rest h g ok = ok
      unless_fine p (Some e) n rest h g ok = expr_fine e h.1.0 g p n _ h.1.1 (when_fine (f66.Not (formula home temp callee e n)) (leaf_fine e n), ok)

      cases_fine : (p : Place) (v : Formula) (zs : List ℤ) → AreFine (mentions_of c v) → Fit (case_routes home temp callee label own p v zs)
      cases_fine p v [] h = (tt, tt)
      cases_fine p v (z ∷ zs) h = (when_fine (f66.Pair Eq v (signed z)) (fine_on (mentions_of c v) (mentions_of c (signed z)) h (signed_fine z)), cases_fine p v zs h)

      items_fine : (p : Place) (xs : List WriteItem) (n : ℕ) (rest : Routes) → ItemsFit M F C room gives xs n → ItemsCall G xs → Fit rest → Fit (item_routes home temp callee label own p xs n rest)
      items_fine p [] n rest h g ok = ok
      items_fine p (Value e d ∷ xs) n rest h g ok = let le = h.2 in expr_fine e h.1 g.0 p n _ (omega (le, arith)) ((tt, leaf_fine e n), items_fine p xs (n + (made e + 1)) rest h.3 g.1 ok)
      items_fine p (Skip i ∷ xs) n rest h g ok = items_fine p xs n rest h g ok
      items_fine p (Chars x ∷ xs) n rest h g ok = items_fine p xs n rest h g ok

      entries_fine : (xs : List WriteItem) (n : ℕ) → AreFine (mentions_of_entries c (entries home temp callee label own xs n))
      entries_fine [] n = tt
      entries_fine (Value e d ∷ xs) n = (tt, entries_fine xs (n + (made e + 1)))
      entries_fine (Skip i ∷ xs) n = entries_fine xs n
      entries_fine (Chars x ∷ xs) n = entries_fine xs n

      taken_fine : (xs : List ReadItem) (n : ℕ) → AreFine (mentions_of_entries c (read_entries home temp callee label own xs n))
      taken_fine [] n = tt
      taken_fine (Take x d ∷ xs) n = (tt, taken_fine xs (n + 1))
      taken_fine (Pass i ∷ xs) n = taken_fine xs n

      stores_fine : (p : Place) (xs : List ReadItem) (n : ℕ) → Fit (store_routes home temp callee label own p xs n)
      stores_fine p [] n = tt
      stores_fine p (Take x d ∷ xs) n = ((tt, (tt, tt)), stores_fine p xs (n + 1))
      stores_fine p (Pass i ∷ xs) n = stores_fine p xs n

      chosen_fine : (b : Bool) (r s : Route) → FitRoute r → FitRoute s → FitRoute (if b then r else s)
      chosen_fine true r s h k = h
      chosen_fine false r s h k = k

      by_or_one_fine : (o : Option Expr) (n : ℕ) → AreFine (mentions_of c (statements.value_or_one home temp callee label own o n))
      by_or_one_fine None n = tt
      by_or_one_fine (Some e) n = leaf_fine e n

      abbrev way : Stmt → List Around → ℕ → Route
      way s rs n = route home temp callee label own s rs n

      abbrev default_way : Clauses → List Around → ℕ → Route
      default_way cs rs n = default_route home temp callee label own cs rs n

      abbrev value : Expr → ℕ → Formula
      value e n = formula home temp callee e n

      mutual
        stmt_fine : (s : Stmt) (rs : List Around) (n : ℕ) → Ready M F C room gives s n → StmtCalls G s → FitRoute (way s rs n)
        stmt_fine (Empty p) rs n h g = tt
        stmt_fine (efl.Block p ss) rs n h g = all_fine ss rs n h g
        stmt_fine (Act p a) rs n h g = act_fine p a n NoRoute h g tt
        stmt_fine (If p e s) rs n h g = expr_fine e h.0.1.0 g.0 p n _ h.0.1.1 ((when_fine (f66.Not (value e n)) (leaf_fine e n), (stmt_fine s (Other ∷ rs) n h.1 g.1, tt)), tt)
        stmt_fine (IfElse p e s t) rs n h g =
            expr_fine e h.0.1.0 g.0 p n _ h.0.1.1 (((when_fine (f66.Not (value e n)) (leaf_fine e n), (stmt_fine s (Other ∷ Other ∷ rs) n h.1 g.1, (tt, tt))), (stmt_fine t (Other ∷ rs) n h.2 g.2, tt)), tt)
        stmt_fine (While p e s) rs n h g = (expr_fine e h.0.1.0 g.0 p n _ h.0.1.1 (when_fine (f66.Not (value e n)) (leaf_fine e n), tt), ((stmt_fine s _ n h.1 g.1, tt), tt))
        stmt_fine (For p a e b s) rs n h g = act_any_fine p a n _ h.0 g.0 ((unless_fine p e n NoRoute h.1 g.1 tt, ((stmt_fine s _ n h.3 g.3, tt), act_any_fine p b n NoRoute h.2 g.2 tt)), tt)
        stmt_fine (Repeat p s) rs n h g = (tt, ((stmt_fine s _ n h g, tt), tt))
        stmt_fine (RepeatUntil p s e r) rs n h g = (tt, ((stmt_fine s _ n h.1 g.0, tt), expr_fine e h.0.1.0 g.1 r n _ h.0.1.1 (when_fine (value e n) (leaf_fine e n), tt)))
        stmt_fine (Do p v a z d s) rs n h g =
            let m = n + made z + made_if_any d in
            expr_fine z h.1.1.0 g.1 p n _ h.1.1.1 (any_fine p d (n + made z) _ h.2 g.2 (expr_fine a h.3.0 g.0 p m _ h.3.1 (
              (tt, leaf_fine a m),
              ((((tt, (tt, tt)), ((tt, (tt, leaf_fine z n)), (λ l. (tt, tt), tt))), ((stmt_fine s _ m h.5 g.3, tt), ((tt, (tt, tt)), ((tt, (tt, by_or_one_fine d (n + made z))), ((tt, (tt, tt)), tt))))), tt),
            )))
        stmt_fine (Switch p e cs) rs n h g =
            expr_fine e h.0.1.0 g.0 p n _ h.0.1.1 ((clauses_fine p (value e n) cs (default_way cs) _ (n + made e) (leaf_fine e n) (λ as'. default_fine cs as' (n + made e) h.1 g.1) h.1 g.1, tt), tt)
        stmt_fine (efl.Break p i o) rs n h g = tt
        stmt_fine (Next p i o) rs n h g = tt
        stmt_fine (Return p None) rs n h g = tt
        stmt_fine (Return p (Some e)) rs n h g = expr_fine e h.1.0 g p n _ h.1.1 ((tt, leaf_fine e n), (tt, tt))
        stmt_fine (Goto p l) rs n h g = tt
        stmt_fine (Write p u xs) rs n h g =
            any_fine p u n _ h.0 g.0
            (items_fine p xs (n + made_if_any u) _ h.1 g.1 ((λ l. transfer_fine (unit_par home temp callee label own (pos 6) u n) (entries home temp callee label own xs (n + made_if_any u)) (entries_fine xs (n + made_if_any u)), tt), tt))
        stmt_fine (Read p u xs) rs n h g =
            any_fine p u n _ h.0 g
            ((λ l. transfer_fine (unit_par home temp callee label own (pos 5) u n) (read_entries home temp callee label own xs (n + made_if_any u)) (taken_fine xs (n + made_if_any u)), tt), stores_fine p xs (n + made_if_any u))
        stmt_fine (efl.Labelled l p s) rs n h g = stmt_fine s rs n h g

        pub all_fine : (ss : Stmts) (rs : List Around) (n : ℕ) → AllReady M F C room gives ss n → StmtsCall G ss → Fit (all_route home temp callee label own ss rs n)
        all_fine NoStmt rs n h g = tt
        all_fine (AndStmt s ss) rs n h g = (stmt_fine s rs n h.0 g.0, all_fine ss rs n h.1 g.1)

        clauses_fine : (p : Place) (v : Formula) (cs : Clauses) (fallen : List Around → ℕ → Route) (rs : List Around) (n : ℕ) → AreFine (mentions_of c v) → ((as' : List Around) → FitRoute (fallen as' n)) → ClausesReady M F C room gives cs n → ClausesCall G cs →
            FitRoute (clause_route home temp callee label own p v cs fallen rs n)
        clauses_fine p v NoClause fallen rs n k go h g = go rs
        clauses_fine p v (AndClause [] fallback ss r cs) fallen rs n k go h g = clauses_fine p v cs fallen rs n k go h.1 g.1
        clauses_fine p v (AndClause (z ∷ zs) fallback ss r cs) fallen rs n k go h g =
            ((cases_fine p v (z ∷ zs) k, (all_fine ss _ n h.0 g.0, (tt, tt))), (clauses_fine p v cs fallen (Other ∷ rs) n k go h.1 g.1, tt))

        default_fine : (cs : Clauses) (rs : List Around) (n : ℕ) → ClausesReady M F C room gives cs n → ClausesCall G cs → FitRoute (default_way cs rs n)
        default_fine NoClause rs n h g = tt
        default_fine (AndClause es fallback ss p cs) rs n h g = chosen_fine fallback _ _ (all_fine ss rs n h.0 g.0) (default_fine cs rs n h.1 g.1)
