-- The routes of a written body have plain acts alone.
use Rattle.std.proofs.Common.{◌≡◌, ℕ, suc, ◌+◌, ◌<◌, ◌≤◌, Bool, true, false, List, [], ◌∷◌, length, Option, None, Some, refl, sym, subst, if◌then◌else◌, ◌&&◌, arith}
use Rattle.std.specs.Prelude.{ℤ, pos, negsuc, neg_ℤ, nat_le}
use Rattle.std.specs.List.{list_all}
use Rattle.std.proofs.lemmas.Bool.{and_from, and_parts, leb-true, le-leb, le-ltb}
use Rattle.ground.specs.declared.place.Place.{Place}
use Rattle.ground.specs.declared.value.Kind.{Kind}
use Rattle.ground.specs.declared.value.Kind.TheVariants.{Integer, Logical}
use Rattle.f66_tree.specs.Fields as fields
use Rattle.f66_tree.specs.Fields.{Step, Fields, Single}
use Rattle.f66_tree.specs.Syntax as f66
use Rattle.f66_tree.specs.Syntax.{Text, Formula, Letter, Ref, Item}
use Rattle.f66_tree.specs.Built.{is_constant}
use Rattle.f66_names.specs.Shapes.{is_printed_step, are_printed}
use Rattle.f66_names.specs.StoreRules.{is_between, is_fit_edit, is_sound_format}
use Rattle.efl_program.specs.Typed as efl
use Rattle.efl_program.specs.Typed.{Expr, Exprs, Site, Edit, AsInteger, AsLogical, AsCharacter, Action, Evaluate, Invoke, WriteItem, Value, Skip, Chars, ReadItem, Take, Pass, Stmt, Empty, Act, If, IfElse, While, For, Repeat, RepeatUntil, Do, Switch, Next, Return, Goto, Write, Read, Stmts, NoStmt, AndStmt, Clauses, NoClause, AndClause}
use Rattle.efl_program.specs.Meaning.{step_by, kind_by, written_by, read_by}
use Rattle.efl_program.specs.Places.{sort_of, kind_of}
use Rattle.routes.specs.Routes.{Route, Routes, NoRoute}
use Rattle.plain_units.specs.Plain.{IsSigned, IsLeaf, IsUnit, AreListed, IsPlain}
use Rattle.routed_units.specs.Routed.{RouteActs, AllActs}
use Rattle.efl_routes.specs.Expressions.{type_of, made, formula, variable_of, routes, ScalarSite}
use Rattle.efl_routes.specs.Statements.{Around, Other, route, all_route, clause_route, default_route, signed, case_routes, item_routes, entries, read_entries, store_routes, limit_routes, step_routes, value_or_one, par_of, unit_par, first_if_any, unless_any, if_any, act_routes, made_if_any, Fit, Ready, AllReady, ClausesReady, FitAct, ActIfAny, ConditionIfAny, FitIfAny, ItemsFit, TakenFit}
use Rattle.efl_plain.specs.Written.{IsWritten, WrittenIfAny, EditIsWritten, ItemsAreWritten, TakenAreWritten, is_case, ActionIsWritten, ActionIfAny, StmtIsWritten, AllWritten, ClausesAreWritten}
use Rattle.efl_plain.proofs.ActsOfExpressions as expressions
use Rattle.efl_plain.proofs.ActsOfExpressions.{leaf_value, leaf_test}

-- ---- constants of clauses ----

signed_so : (z : ℤ) → is_case z ≡ true → IsSigned (signed z)
signed_so (pos m) h =
    subst (λ b. IsSigned (if b then (f66.Minus (f66.Int (neg_ℤ (pos m)))) else (f66.Int (pos m)))) (sym (le-ltb m 0 (omega arith))) (and_from (nat_le 0 m) (nat_le m 2147483647) (le-leb 0 m (omega arith)) h)
signed_so (negsuc m) h =
    let small : nat_le m 2147483646 ≡ true = (and_parts (nat_le m 2147483646) true h).0 in
    let low : m ≤ 2147483646 = leb-true m 2147483646 small in
    subst (λ b. IsSigned (if b && true then (f66.Minus (f66.Int (pos (suc m)))) else (f66.Int (negsuc m)))) (sym small) (and_from (nat_le 0 (suc m)) (nat_le (suc m) 2147483647) (le-leb 0 (suc m) (omega arith)) (le-leb (suc m) 2147483647 (omega (low, arith))))

-- ---- formats ----

-- a width of a record is one of a format
wider : (n : ℕ) → is_between 1 132 n ≡ true → is_between 1 255 n ≡ true
wider n h =
    let parts = and_parts (nat_le 1 n) (nat_le n 132) h in
    let low : n ≤ 132 = leb-true n 132 parts.1 in
    and_from (nat_le 1 n) (nat_le n 255) parts.0 (le-leb n 255 (omega (low, arith)))

-- what is asked of a format
abbrev pub AreSound : Fields → Type 0
AreSound fs = (are_printed fs ≡ true) × (is_sound_format fs ≡ true)

one_more : (s : Step) (fs : Fields) → is_printed_step s ≡ true → is_fit_edit 1 s ≡ true → AreSound fs → AreSound (Single 1 s fs)
one_more s fs h k ok = (and_from (is_printed_step s) (are_printed fs) h ok.0, and_from (is_fit_edit 1 s) (is_sound_format fs) k ok.1)

edit_printed : (d : Edit) → is_printed_step (step_by d) ≡ true
edit_printed (AsInteger w) = refl
edit_printed (AsLogical w) = refl
edit_printed AsCharacter = refl

edit_fits : (d : Edit) → EditIsWritten d → is_fit_edit 1 (step_by d) ≡ true
edit_fits (AsInteger w) h = h
edit_fits (AsLogical w) h = h
edit_fits AsCharacter h = refl

pub written_sound : (xs : List WriteItem) → ItemsAreWritten xs → AreSound (written_by xs)
written_sound [] h = (refl, refl)
written_sound (Value e d ∷ xs) h = one_more (step_by d) (written_by xs) (edit_printed d) (edit_fits d h.0.1) (written_sound xs h.1)
written_sound (Skip i ∷ xs) h = one_more (fields.Blanks i) (written_by xs) refl (wider i h.0) (written_sound xs h.1)
written_sound (Chars t ∷ xs) h = one_more (fields.Chars t) (written_by xs) h.0.1 (wider (length t) h.0.0) (written_sound xs h.1)

pub read_sound : (xs : List ReadItem) → TakenAreWritten xs → AreSound (read_by xs)
read_sound [] h = (refl, refl)
read_sound (Take x d ∷ xs) h = one_more (step_by d) (read_by xs) (edit_printed d) (edit_fits d h.0) (read_sound xs h.1)
read_sound (Pass i ∷ xs) h = one_more (fields.Blanks i) (read_by xs) refl (wider i h.0) (read_sound xs h.1)

module _ (home : ℕ → Text) (temp : Kind → ℕ → Text) (callee : ℕ → Text) (label : Text → ℕ) (own : Text) (V F : Text → Kind → Type 0) (S : Text → Type 0) where
  abbrev Leaf : Formula → Kind → Type 0
  Leaf e k = IsLeaf V F S e k

  abbrev Acts : Routes → Type 0
  Acts rs = AllActs (IsPlain V F S) rs

  abbrev Acts1 : Route → Type 0
  Acts1 r = RouteActs (IsPlain V F S) r

  par_plain : (e : Formula) → Leaf e Integer → IsUnit V F S (par_of home temp callee label own e)
  par_plain (f66.Int z) h = h.1
  par_plain (f66.Truth b) h = refl
  par_plain (Letter l) h = refl
  par_plain (Ref x) h = h
  par_plain (Item x es) h = refl
  par_plain (f66.Group a) h = refl
  par_plain (f66.Plus a) h = refl
  par_plain (f66.Minus a) h = refl
  par_plain (f66.Not a) h = refl
  par_plain (f66.Pair op a b) h = refl

  -- the constants of a clause, against an integer
  cases_plain : (p : Place) (v : Formula) (zs : List ℤ) → Leaf v Integer → list_all is_case zs ≡ true → Acts (case_routes home temp callee label own p v zs)
  cases_plain p v [] h k = (tt, tt)
  cases_plain p v (z ∷ zs) h k =
      let parts = and_parts (is_case z) (list_all is_case zs) k in
      (λ l. (refl, h, signed_so z parts.0), cases_plain p v zs h parts.1)

  chosen_plain : (b : Bool) (r s : Route) → Acts1 r → Acts1 s → Acts1 (if b then r else s)
  chosen_plain true r s h k = h
  chosen_plain false r s h k = k

  module _ (M : ℕ → Kind → Type 0) (G : ℕ → Kind → ℕ → Type 0) (C : ℕ → ℕ → Type 0) (room : ℕ) (gives : Type 0) (K : Kind) (variables : (v : ℕ) (k : Kind) → M v k → V (home v) k) (temporaries : (k : Kind) (i : ℕ) → i < room → V (temp k i) k)
      (functions : (v : ℕ) (k : Kind) (c : ℕ) → G v k c → F (callee v) k) (procedures : (v c : ℕ) → C v c → S (callee v)) (value : gives → V own K) where
    abbrev Fits : Expr → ℕ → Type 0
    Fits e n = Fit M G C room gives e n

    abbrev value_of : Expr → ℕ → Formula
    value_of e n = formula home temp callee e n

    ahead : (e : Expr) → IsWritten e → (p : Place) (n : ℕ) (rest : Routes) → Fits e n → Acts rest → Acts (routes home temp callee p e n rest)
    ahead e w p n rest h ok = expressions.expr_plain home temp callee V F S M G room variables temporaries functions e h.0 w p n rest h.1 ok

    leaf_of : (e : Expr) (k : Kind) (n : ℕ) → type_of e ≡ k → IsWritten e → Fits e n → Leaf (value_of e n) k
    leaf_of e k n is w h = expressions.leaf_of home temp callee V F S M G room variables temporaries functions e k n is h.0 w h.1

    site_variable : (x : Site) → ScalarSite M x → V (home (variable_of x)) (kind_of (sort_of x))
    site_variable x h = expressions.site_variable home temp callee V F S M G room variables temporaries functions x h

    any_plain : (o : Option Expr) → WrittenIfAny o → (p : Place) (n : ℕ) (rest : Routes) → FitIfAny M G C room gives o n → Acts rest → Acts (first_if_any home temp callee label own p o n rest)
    any_plain None w p n rest h ok = ok
    any_plain (Some e) w p n rest h ok = ahead e w p n rest h.1 ok

    act_plain : (a : Action) → ActionIsWritten a → (p : Place) (n : ℕ) (rest : Routes) → FitAct M G C room gives a n → Acts rest → Acts (act_routes home temp callee label own p a n rest)
    act_plain (Evaluate e) w p n rest h ok = ahead e w p n rest h ok
    act_plain (Invoke v es) w p n rest h ok =
        expressions.actuals_plain home temp callee V F S M G room variables temporaries functions es h.1 w p n _ h.2
        ((procedures v _ h.0, expressions.actuals_passed home temp callee V F S M G room variables temporaries functions es n h.1 w h.2), ok)

    act_any_plain : (o : Option Action) → ActionIfAny o → (p : Place) (n : ℕ) (rest : Routes) → ActIfAny M G C room gives o n → Acts rest → Acts (if_any home temp callee label own p o n rest)
    act_any_plain None w p n rest h ok = ok
    act_any_plain (Some a) w p n rest h ok = act_plain a w p n rest h ok

    -- a condition that does not hold
    unless_any_plain : (o : Option Expr) → WrittenIfAny o → (p : Place) (n : ℕ) (rest : Routes) → ConditionIfAny M G C room gives o n → Acts rest → Acts (unless_any home temp callee label own p o n rest)
    unless_any_plain None w p n rest h ok = ok
    unless_any_plain (Some e) w p n rest h ok = ahead e w p n _ h.1 (λ l. leaf_of e Logical n h.0 w h.1, ok)

    -- ---- records ----

    unit_plain : (z : ℤ) → is_constant z ≡ true → (u : Option Expr) (n : ℕ) → WrittenIfAny u → FitIfAny M G C room gives u n → IsUnit V F S (unit_par home temp callee label own z u n)
    unit_plain z h None n w fit = h
    unit_plain z h (Some e) n w fit = par_plain (value_of e n) (leaf_of e Integer n fit.0 w fit.1)

    items_plain : (xs : List WriteItem) → ItemsAreWritten xs → (p : Place) (n : ℕ) (rest : Routes) → ItemsFit M G C room gives xs n → Acts rest → Acts (item_routes home temp callee label own p xs n rest)
    items_plain [] w p n rest h ok = ok
    items_plain (Value e d ∷ xs) w p n rest h ok =
        let fit : n + (made e + 1) ≤ room = h.2 in
        let own_fit : Fits e n = (h.1, omega (fit, arith)) in
        ahead e w.0.0 p n _ own_fit
        ((kind_by d, temporaries (kind_by d) (n + made e) (omega (fit, arith)), leaf_value V F S (value_of e n) (kind_by d) (leaf_of e (kind_by d) n h.0 w.0.0 own_fit)), items_plain xs w.1 p (n + (made e + 1)) rest h.3 ok)
    items_plain (Skip i ∷ xs) w p n rest h ok = items_plain xs w.1 p n rest h ok
    items_plain (Chars t ∷ xs) w p n rest h ok = items_plain xs w.1 p n rest h ok

    entries_listed : (xs : List WriteItem) (n : ℕ) → ItemsFit M G C room gives xs n → AreListed V F S (entries home temp callee label own xs n)
    entries_listed [] n h = tt
    entries_listed (Value e d ∷ xs) n h =
        let fit : n + (made e + 1) ≤ room = h.2 in
        ((kind_by d, temporaries (kind_by d) (n + made e) (omega (fit, arith))), entries_listed xs (n + (made e + 1)) h.3)
    entries_listed (Skip i ∷ xs) n h = entries_listed xs n h
    entries_listed (Chars t ∷ xs) n h = entries_listed xs n h

    taken_listed : (xs : List ReadItem) (n : ℕ) → TakenFit M G C room gives xs n → AreListed V F S (read_entries home temp callee label own xs n)
    taken_listed [] n h = tt
    taken_listed (Take x d ∷ xs) n h =
        let fit : n + 1 ≤ room = h.2 in
        ((kind_by d, temporaries (kind_by d) n (omega (fit, arith))), taken_listed xs (n + 1) h.3)
    taken_listed (Pass i ∷ xs) n h = taken_listed xs n h

    stores_plain : (xs : List ReadItem) (p : Place) (n : ℕ) → TakenFit M G C room gives xs n → Acts (store_routes home temp callee label own p xs n)
    stores_plain [] p n h = tt
    stores_plain (Take x d ∷ xs) p n h =
        let fit : n + 1 ≤ room = h.2 in
        ((kind_by d, subst (λ k. V (home (variable_of x)) k) h.1 (site_variable x h.0), temporaries (kind_by d) n (omega (fit, arith))), stores_plain xs p (n + 1) h.3)
    stores_plain (Pass i ∷ xs) p n h = stores_plain xs p n h

    -- ---- a `do` ----

    limit_plain : (p : Place) (v : ℕ) (e : Formula) (n : ℕ) → M v Integer → Leaf e Integer → n + 2 ≤ room → Acts (limit_routes home temp callee label own p v e n)
    limit_plain p v e n i h fit =
        let t : V (temp Integer n) Integer = temporaries Integer n (omega (fit, arith)) in
        let q : V (temp Logical (n + 1)) Logical = temporaries Logical (n + 1) (omega (fit, arith)) in
        ((Integer, t, variables v Integer i), ((Logical, q, (refl, t, h)), (λ l. q, tt)))

    step_plain : (p : Place) (v : ℕ) (e : Formula) (n : ℕ) → M v Integer → Leaf e Integer → n + 2 ≤ room → Acts (step_routes home temp callee label own p v e n)
    step_plain p v e n i h fit =
        let x : V (home v) Integer = variables v Integer i in
        let t : V (temp Integer n) Integer = temporaries Integer n (omega (fit, arith)) in
        let q : V (temp Integer (n + 1)) Integer = temporaries Integer (n + 1) (omega (fit, arith)) in
        ((Integer, t, x), ((Integer, q, (refl, t, h)), ((Integer, x, q), tt)))

    by_or_one : (o : Option Expr) (n : ℕ) → WrittenIfAny o → FitIfAny M G C room gives o n → Leaf (value_or_one home temp callee label own o n) Integer
    by_or_one None n w h = (refl, refl)
    by_or_one (Some e) n w h = leaf_of e Integer n h.0 w h.1

    -- ---- statements ----

    abbrev way : Stmt → List Around → ℕ → Route
    way s rs n = route home temp callee label own s rs n

    abbrev IsReady : Stmt → ℕ → Type 0
    IsReady s n = Ready M G C room gives s n

    mutual
      stmt_plain : (s : Stmt) (rs : List Around) (n : ℕ) → IsReady s n → StmtIsWritten K s → Acts1 (way s rs n)
      stmt_plain (Empty p) rs n h w = tt
      stmt_plain (efl.Block p ss) rs n h w = all_plain ss rs n h w
      stmt_plain (Act p a) rs n h w = act_plain a w p n NoRoute h tt
      stmt_plain (If p e s) rs n h w = ahead e w.0 p n _ h.0.1 ((λ l. leaf_of e Logical n h.0.0 w.0 h.0.1, (stmt_plain s (Other ∷ rs) n h.1 w.1, tt)), tt)
      stmt_plain (IfElse p e s t) rs n h w =
          ahead e w.0 p n _ h.0.1
          (((λ l. leaf_of e Logical n h.0.0 w.0 h.0.1, (stmt_plain s (Other ∷ Other ∷ rs) n h.1 w.1, (tt, tt))), (stmt_plain t (Other ∷ rs) n h.2 w.2, tt)), tt)
      stmt_plain (While p e s) rs n h w = (ahead e w.0 p n _ h.0.1 (λ l. leaf_of e Logical n h.0.0 w.0 h.0.1, tt), ((stmt_plain s _ n h.1 w.1, tt), tt))
      stmt_plain (For p a e b s) rs n h w =
          act_any_plain a w.0 p n _ h.0 ((unless_any_plain e w.1 p n NoRoute h.1 tt, ((stmt_plain s _ n h.3 w.3, tt), act_any_plain b w.2 p n NoRoute h.2 tt)), tt)
      stmt_plain (Repeat p s) rs n h w = (tt, ((stmt_plain s _ n h w, tt), tt))
      stmt_plain (RepeatUntil p s e q) rs n h w = (tt, ((stmt_plain s _ n h.1 w.0, tt), ahead e w.1 q n _ h.0.1 (λ l. leaf_test V F S (value_of e n) (leaf_of e Logical n h.0.0 w.1 h.0.1), tt)))
      stmt_plain (Do p v a z d s) rs n h w =
          let m = n + made z + made_if_any d in
          let start : Leaf (value_of a m) Integer = leaf_of a Integer m w.0.0 w.0.1 h.3 in
          let limit : Leaf (value_of z n) Integer = leaf_of z Integer n h.1.0 w.1 h.1.1 in
          let by : Leaf (value_or_one home temp callee label own d (n + made z)) Integer = by_or_one d (n + made z) w.2 h.2 in
          ahead z w.1 p n _ h.1.1 (any_plain d w.2 p (n + made z) _ h.2 (ahead a w.0.1 p m _ h.3 (
            (Integer, variables v Integer h.0, leaf_value V F S (value_of a m) Integer start),
            ((limit_plain p v (value_of z n) m h.0 limit h.4, ((stmt_plain s _ m h.5 w.3, tt), step_plain p v _ m h.0 by h.4)), tt),
          )))
      stmt_plain (Switch p e cs) rs n h w =
          let fit : Leaf (value_of e n) Integer = leaf_of e Integer n h.0.0 w.0 h.0.1 in
          ahead e w.0 p n _ h.0.1 ((clauses_plain p (value_of e n) cs (λ as' i. default_route home temp callee label own cs as' i) _ (n + made e) fit (λ as'. default_plain cs as' (n + made e) h.1 w.1) h.1 w.1, tt), tt)
      stmt_plain (efl.Break p i o) rs n h w = tt
      stmt_plain (Next p i o) rs n h w = tt
      stmt_plain (Return p None) rs n h w = tt
      stmt_plain (Return p (Some e)) rs n h w = ahead e w.1 p n _ h.1 ((K, value h.0, leaf_value V F S (value_of e n) K (leaf_of e K n w.0 w.1 h.1)), (tt, tt))
      stmt_plain (Goto p l) rs n h w = tt
      stmt_plain (Write p u xs) rs n h w =
          let m = n + made_if_any u in
          any_plain u w.0 p n _ h.0 (items_plain xs w.1 p m _ h.1 ((λ l. (unit_plain (pos 6) refl u n w.0 h.0, entries_listed xs m h.1), written_sound xs w.1), tt))
      stmt_plain (Read p u xs) rs n h w =
          let m = n + made_if_any u in
          any_plain u w.0 p n _ h.0 ((λ l. (unit_plain (pos 5) refl u n w.0 h.0, taken_listed xs m h.1), read_sound xs w.1), stores_plain xs p m h.1)
      stmt_plain (efl.Labelled l p s) rs n h w = stmt_plain s rs n h w

      pub all_plain : (ss : Stmts) (rs : List Around) (n : ℕ) → AllReady M G C room gives ss n → AllWritten K ss → Acts (all_route home temp callee label own ss rs n)
      all_plain NoStmt rs n h w = tt
      all_plain (AndStmt s ss) rs n h w = (stmt_plain s rs n h.0 w.0, all_plain ss rs n h.1 w.1)

      clauses_plain : (p : Place) (v : Formula) (cs : Clauses) (fallen : List Around → ℕ → Route) (rs : List Around) (n : ℕ) → Leaf v Integer → ((as' : List Around) → Acts1 (fallen as' n)) → ClausesReady M G C room gives cs n → ClausesAreWritten K cs →
          Acts1 (clause_route home temp callee label own p v cs fallen rs n)
      clauses_plain p v NoClause fallen rs n k go h w = go rs
      clauses_plain p v (AndClause [] fallback ss r cs) fallen rs n k go h w = clauses_plain p v cs fallen rs n k go h.1 w.2
      clauses_plain p v (AndClause (z ∷ zs) fallback ss r cs) fallen rs n k go h w =
          ((cases_plain p v (z ∷ zs) k w.0, (all_plain ss _ n h.0 w.1, (tt, tt))), (clauses_plain p v cs fallen (Other ∷ rs) n k go h.1 w.2, tt))

      default_plain : (cs : Clauses) (rs : List Around) (n : ℕ) → ClausesReady M G C room gives cs n → ClausesAreWritten K cs → Acts1 (default_route home temp callee label own cs rs n)
      default_plain NoClause rs n h w = tt
      default_plain (AndClause es fallback ss p cs) rs n h w = chosen_plain fallback _ _ (all_plain ss rs n h.0 w.1) (default_plain cs rs n h.1 w.2)
