-- The routes of a body have acts with few operands alone.
use Rattle.std.proofs.Common.{◌≡◌, ℕ, ◌+◌, ◌*◌, ◌≤◌, Bool, true, false, List, [], ◌∷◌, length, Option, None, Some, refl, if◌then◌else◌, arith}
use Rattle.std.specs.Prelude.{ℤ, nat_le}
use Rattle.std.specs.List.{sum_by}
use Rattle.std.proofs.lemmas.Bool.{and_parts, leb-true}
use Rattle.std.proofs.lemmas.List.Sums.{sum_by-cons}
use Rattle.ground.specs.declared.place.Place.{Place}
use Rattle.ground.specs.declared.value.Kind.{Kind}
use Rattle.f66_tree.specs.Fields.{Fields}
use Rattle.f66_tree.specs.Syntax as f66
use Rattle.f66_tree.specs.Syntax.{Text, Formula}
use Rattle.f66_names.specs.StoreRules.{is_between, is_sound_format}
use Rattle.efl_program.specs.Typed as efl
use Rattle.efl_program.specs.Typed.{Expr, Edit, AsInteger, AsLogical, AsCharacter, Action, Evaluate, Invoke, WriteItem, Value, Skip, Chars, ReadItem, Take, Pass, Stmt, Empty, Act, If, IfElse, While, For, Repeat, RepeatUntil, Do, Switch, Next, Return, Goto, Write, Read, Stmts, NoStmt, AndStmt, Clauses, NoClause, AndClause}
use Rattle.efl_program.specs.Meaning.{step_by, kind_by, written_by, read_by}
use Rattle.routes.specs.Routes.{Route, Routes, NoRoute}
use Rattle.deck_laws.specs.Whole.{AreWholeFields, IsWholeStep}
use Rattle.plain_decks.specs.Few.{width_of_step, width_of_fields, entries_of}
use Rattle.plain_decks.proofs.Formats.{few_fields}
use Rattle.plain_decks.proofs.Operands.{few_operands}
use Rattle.routed_units.specs.Routed.{RouteActs}
use Rattle.efl_routes.specs.Expressions.{made, formula, routes, actuals}
use Rattle.efl_routes.specs.Statements.{Around, Other, route, all_route, clause_route, default_route, case_routes, item_routes, entries, read_entries, store_routes, first_if_any, unless_any, if_any, act_routes, made_if_any, Ready, AllReady, ClausesReady, FitAct, ActIfAny, ConditionIfAny, FitIfAny, ItemsFit, Fit}
use Rattle.efl_plain.specs.Written.{EditIsWritten, ItemsAreWritten, TakenAreWritten, edit_width, item_width, taken_width, StmtIsWritten, AllWritten, ClausesAreWritten}
use Rattle.efl_plain.proofs.ActsOfStatements.{written_sound, read_sound}
use Rattle.efl_lower.proofs.FewExpressions.{Short, ActsShort, few_actuals}
use Rattle.efl_lower.proofs.FewExpressions as expressions

-- ---- records ----

-- an item has a column or more, and at most eight characters for each of them
at_least : (n : ℕ) → is_between 1 132 n ≡ true → 1 ≤ n
at_least n h = leb-true 1 n (and_parts (nat_le 1 n) (nat_le n 132) h).0

edit_wide : (d : Edit) → EditIsWritten d → (1 ≤ edit_width d) × (width_of_step (step_by d) ≤ 8)
edit_wide (AsInteger w) h = (at_least w h, omega arith)
edit_wide (AsLogical w) h = (at_least w h, omega arith)
edit_wide AsCharacter h = (omega arith, omega arith)

written_width : (xs : List WriteItem) → ItemsAreWritten xs → width_of_fields (written_by xs) ≤ 8 * sum_by item_width xs
written_width [] h = omega arith
written_width (Value e d ∷ xs) h = let own = edit_wide d h.0.1 in let rest = written_width xs h.1 in let a = own.0 in let b = own.1 in omega (sum_by-cons item_width (Value e d) xs, a, b, rest, arith)
written_width (Skip n ∷ xs) h = let own = at_least n h.0 in let rest = written_width xs h.1 in omega (sum_by-cons item_width (Skip n) xs, own, rest, arith)
written_width (Chars t ∷ xs) h = let own = at_least (length t) h.0.0 in let rest = written_width xs h.1 in omega (sum_by-cons item_width (Chars t) xs, own, rest, arith)

read_width : (xs : List ReadItem) → TakenAreWritten xs → width_of_fields (read_by xs) ≤ 8 * sum_by taken_width xs
read_width [] h = omega arith
read_width (Take x d ∷ xs) h = let own = edit_wide d h.0 in let rest = read_width xs h.1 in let a = own.0 in let b = own.1 in omega (sum_by-cons taken_width (Take x d) xs, a, b, rest, arith)
read_width (Pass n ∷ xs) h = let own = at_least n h.0 in let rest = read_width xs h.1 in omega (sum_by-cons taken_width (Pass n) xs, own, rest, arith)

edit_whole : (d : Edit) → IsWholeStep 1 (step_by d)
edit_whole (AsInteger w) = tt
edit_whole (AsLogical w) = tt
edit_whole AsCharacter = refl

written_whole : (xs : List WriteItem) → AreWholeFields (written_by xs)
written_whole [] = tt
written_whole (Value e d ∷ xs) = (edit_whole d, written_whole xs)
written_whole (Skip n ∷ xs) = (refl, written_whole xs)
written_whole (Chars t ∷ xs) = (refl, written_whole xs)

read_whole : (xs : List ReadItem) → AreWholeFields (read_by xs)
read_whole [] = tt
read_whole (Take x d ∷ xs) = (edit_whole d, read_whole xs)
read_whole (Pass n ∷ xs) = (refl, read_whole xs)

format_short : (fs : Fields) (m : ℕ) → is_sound_format fs ≡ true → width_of_fields fs ≤ 8 * m → m ≤ 132 → AreWholeFields fs → Short (f66.Format fs)
format_short fs m sound wide le whole = (few_fields fs sound (omega (wide, le, arith)), whole, tt)

module _ (home : ℕ → Text) (temp : Kind → ℕ → Text) (callee : ℕ → Text) (label : Text → ℕ) (own : Text) where
  abbrev Short1 : Route → Type 0
  Short1 r = RouteActs Short r

  -- as many variables as columns, or fewer
  many_entries : (xs : List WriteItem) (n : ℕ) → ItemsAreWritten xs → entries_of (entries home temp callee label own xs n) ≤ sum_by item_width xs
  many_entries [] n h = omega arith
  many_entries (Value e d ∷ xs) n h = let a = (edit_wide d h.0.1).0 in let rest = many_entries xs (n + (made e + 1)) h.1 in omega (sum_by-cons item_width (Value e d) xs, a, rest, arith)
  many_entries (Skip i ∷ xs) n h = let rest = many_entries xs n h.1 in omega (sum_by-cons item_width (Skip i) xs, rest, arith)
  many_entries (Chars t ∷ xs) n h = let rest = many_entries xs n h.1 in omega (sum_by-cons item_width (Chars t) xs, rest, arith)

  many_taken : (xs : List ReadItem) (n : ℕ) → TakenAreWritten xs → entries_of (read_entries home temp callee label own xs n) ≤ sum_by taken_width xs
  many_taken [] n h = omega arith
  many_taken (Take x d ∷ xs) n h = let a = (edit_wide d h.0).0 in let rest = many_taken xs (n + 1) h.1 in omega (sum_by-cons taken_width (Take x d) xs, a, rest, arith)
  many_taken (Pass i ∷ xs) n h = let rest = many_taken xs n h.1 in omega (sum_by-cons taken_width (Pass i) xs, rest, arith)

  stores_short : (xs : List ReadItem) (p : Place) (n : ℕ) → ActsShort (store_routes home temp callee label own p xs n)
  stores_short [] p n = tt
  stores_short (Take x d ∷ xs) p n = ((tt, tt, tt), stores_short xs p (n + 1))
  stores_short (Pass i ∷ xs) p n = stores_short xs p n

  cases_short : (p : Place) (v : Formula) (zs : List ℤ) → ActsShort (case_routes home temp callee label own p v zs)
  cases_short p v [] = (tt, tt)
  cases_short p v (z ∷ zs) = (λ l. (tt, tt, tt), cases_short p v zs)

  chosen_short : (b : Bool) (r s : Route) → Short1 r → Short1 s → Short1 (if b then r else s)
  chosen_short true r s h k = h
  chosen_short false r s h k = k

  module _ (M : ℕ → Kind → Type 0) (G : ℕ → Kind → ℕ → Type 0) (C : ℕ → ℕ → Type 0) (room : ℕ) (gives : Type 0) (K : Kind) (functions : (v : ℕ) (k : Kind) (c : ℕ) → G v k c → c ≤ 32) (procedures : (v c : ℕ) → C v c → c ≤ 32) where
    ahead : (e : Expr) (p : Place) (n m : ℕ) (rest : Routes) → Fit M G C room gives e m → ActsShort rest → ActsShort (routes home temp callee p e n rest)
    ahead e p n m rest h ok = expressions.expr_short home temp callee M G functions e h.0 p n rest ok

    any_short : (o : Option Expr) (p : Place) (n : ℕ) (rest : Routes) → FitIfAny M G C room gives o n → ActsShort rest → ActsShort (first_if_any home temp callee label own p o n rest)
    any_short None p n rest h ok = ok
    any_short (Some e) p n rest h ok = ahead e p n n rest h.1 ok

    act_short : (a : Action) (p : Place) (n : ℕ) (rest : Routes) → FitAct M G C room gives a n → ActsShort rest → ActsShort (act_routes home temp callee label own p a n rest)
    act_short (Evaluate e) p n rest h ok = ahead e p n n rest h ok
    act_short (Invoke v es) p n rest h ok =
        let le = procedures v _ h.0 in
        expressions.actuals_short home temp callee M G functions es h.1 p n _ ((few_operands (actuals home temp callee es n) (few_actuals home temp callee es n le), tt, tt), ok)

    act_any_short : (o : Option Action) (p : Place) (n : ℕ) (rest : Routes) → ActIfAny M G C room gives o n → ActsShort rest → ActsShort (if_any home temp callee label own p o n rest)
    act_any_short None p n rest h ok = ok
    act_any_short (Some a) p n rest h ok = act_short a p n rest h ok

    unless_any_short : (o : Option Expr) (p : Place) (n : ℕ) (rest : Routes) → ConditionIfAny M G C room gives o n → ActsShort rest → ActsShort (unless_any home temp callee label own p o n rest)
    unless_any_short None p n rest h ok = ok
    unless_any_short (Some e) p n rest h ok = ahead e p n n _ h.1 (λ l. (tt, tt, tt), ok)

    items_short : (xs : List WriteItem) (p : Place) (n : ℕ) (rest : Routes) → ItemsFit M G C room gives xs n → ActsShort rest → ActsShort (item_routes home temp callee label own p xs n rest)
    items_short [] p n rest h ok = ok
    items_short (Value e d ∷ xs) p n rest h ok =
        expressions.expr_short home temp callee M G functions e h.1 p n _ (expressions.value_short home temp callee (temp (kind_by d) (n + made e)) e n, items_short xs p (n + (made e + 1)) rest h.3 ok)
    items_short (Skip i ∷ xs) p n rest h ok = items_short xs p n rest h ok
    items_short (Chars t ∷ xs) p n rest h ok = items_short xs p n rest h ok

    -- ---- statements ----

    abbrev way : Stmt → List Around → ℕ → Route
    way s rs n = route home temp callee label own s rs n

    abbrev IsReady : Stmt → ℕ → Type 0
    IsReady s n = Ready M G C room gives s n

    mutual
      stmt_short : (s : Stmt) (rs : List Around) (n : ℕ) → IsReady s n → StmtIsWritten K s → Short1 (way s rs n)
      stmt_short (Empty p) rs n h w = tt
      stmt_short (efl.Block p ss) rs n h w = all_short ss rs n h w
      stmt_short (Act p a) rs n h w = act_short a p n NoRoute h tt
      stmt_short (If p e s) rs n h w = ahead e p n n _ h.0.1 ((λ l. (tt, tt, tt), (stmt_short s (Other ∷ rs) n h.1 w.1, tt)), tt)
      stmt_short (IfElse p e s t) rs n h w =
          ahead e p n n _ h.0.1 (((λ l. (tt, tt, tt), (stmt_short s (Other ∷ Other ∷ rs) n h.1 w.1, (tt, tt))), (stmt_short t (Other ∷ rs) n h.2 w.2, tt)), tt)
      stmt_short (While p e s) rs n h w = (ahead e p n n _ h.0.1 (λ l. (tt, tt, tt), tt), ((stmt_short s _ n h.1 w.1, tt), tt))
      stmt_short (For p a e b s) rs n h w =
          act_any_short a p n _ h.0 ((unless_any_short e p n NoRoute h.1 tt, ((stmt_short s _ n h.3 w.3, tt), act_any_short b p n NoRoute h.2 tt)), tt)
      stmt_short (Repeat p s) rs n h w = (tt, ((stmt_short s _ n h w, tt), tt))
      stmt_short (RepeatUntil p s e q) rs n h w = (tt, ((stmt_short s _ n h.1 w.0, tt), ahead e q n n _ h.0.1 (λ l. (tt, tt, tt), tt)))
      stmt_short (Do p v a z d s) rs n h w =
          let m = n + made z + made_if_any d in
          ahead z p n n _ h.1.1 (any_short d p (n + made z) _ h.2 (ahead a p m m _ h.3 (
            expressions.value_short home temp callee (home v) a m,
            ((((tt, tt, tt), ((tt, tt, tt), (λ l. (tt, tt, tt), tt))), ((stmt_short s _ m h.5 w.3, tt), ((tt, tt, tt), ((tt, tt, tt), ((tt, tt, tt), tt))))), tt),
          )))
      stmt_short (Switch p e cs) rs n h w =
          ahead e p n n _ h.0.1 ((clauses_short p (formula home temp callee e n) cs (λ as' i. default_route home temp callee label own cs as' i) _ (n + made e) (λ as'. default_short cs as' (n + made e) h.1 w.1) h.1 w.1, tt), tt)
      stmt_short (efl.Break p i o) rs n h w = tt
      stmt_short (Next p i o) rs n h w = tt
      stmt_short (Return p None) rs n h w = (tt, tt, tt)
      stmt_short (Return p (Some e)) rs n h w = ahead e p n n _ h.1 (expressions.value_short home temp callee own e n, ((tt, tt, tt), tt))
      stmt_short (Goto p l) rs n h w = (tt, tt, tt)
      stmt_short (Write p u xs) rs n h w =
          let m = n + made_if_any u in
          let le = w.2 in
          let many = many_entries xs m w.1 in
          any_short u p n _ h.0 (items_short xs p m _ h.1 ((λ l. (omega (le, many, arith), tt, tt), format_short (written_by xs) (sum_by item_width xs) (written_sound xs w.1).1 (written_width xs w.1) le (written_whole xs)), tt))
      stmt_short (Read p u xs) rs n h w =
          let m = n + made_if_any u in
          let le = w.2 in
          let many = many_taken xs m w.1 in
          any_short u p n _ h.0 ((λ l. (omega (le, many, arith), tt, tt), format_short (read_by xs) (sum_by taken_width xs) (read_sound xs w.1).1 (read_width xs w.1) le (read_whole xs)), stores_short xs p m)
      stmt_short (efl.Labelled l p s) rs n h w = stmt_short s rs n h w

      pub all_short : (ss : Stmts) (rs : List Around) (n : ℕ) → AllReady M G C room gives ss n → AllWritten K ss → ActsShort (all_route home temp callee label own ss rs n)
      all_short NoStmt rs n h w = tt
      all_short (AndStmt s ss) rs n h w = (stmt_short s rs n h.0 w.0, all_short ss rs n h.1 w.1)

      clauses_short : (p : Place) (v : Formula) (cs : Clauses) (fallen : List Around → ℕ → Route) (rs : List Around) (n : ℕ) → ((as' : List Around) → Short1 (fallen as' n)) → ClausesReady M G C room gives cs n → ClausesAreWritten K cs →
          Short1 (clause_route home temp callee label own p v cs fallen rs n)
      clauses_short p v NoClause fallen rs n go h w = go rs
      clauses_short p v (AndClause [] fallback ss r cs) fallen rs n go h w = clauses_short p v cs fallen rs n go h.1 w.2
      clauses_short p v (AndClause (z ∷ zs) fallback ss r cs) fallen rs n go h w =
          ((cases_short p v (z ∷ zs), (all_short ss _ n h.0 w.1, (tt, tt))), (clauses_short p v cs fallen (Other ∷ rs) n go h.1 w.2, tt))

      default_short : (cs : Clauses) (rs : List Around) (n : ℕ) → ClausesReady M G C room gives cs n → ClausesAreWritten K cs → Short1 (default_route home temp callee label own cs rs n)
      default_short NoClause rs n h w = tt
      default_short (AndClause es fallback ss p cs) rs n h w = chosen_short fallback _ _ (all_short ss rs n h.0 w.1) (default_short cs rs n h.1 w.2)
