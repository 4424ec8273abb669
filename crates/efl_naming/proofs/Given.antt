-- How often labels stand in the routes of a body, at most: as often as in the parts of the text.
use Rattle.std.proofs.Common.{◌≡◌, ℕ, suc, zero, ◌+◌, ◌≤◌, ℤ, Bool, true, false, List, [], ◌∷◌, ◌++◌, map, Option, Some, None, refl, ◌∙◌, arith, if◌then◌else◌, ◌||◌}
use Rattle.std.specs.Prelude.{nat_eq, option_map}
use Rattle.ground.specs.declared.place.Place.{Place}
use Rattle.ground.specs.declared.value.Kind.{Kind}
use Rattle.f66_tree.specs.Syntax.{Text, Formula, Formulas, NoFormula, AndFormula}
use Rattle.efl_tree.specs.declared.statement.LoopKind.TheVariants as loops
use Rattle.efl_tree.specs.Syntax as efl
use Rattle.efl_tree.specs.Syntax.{EflStmt, Statement, EflKind, EflStmts, EflCases, NoCase, AndCase}
use Rattle.efl_scope.specs.Parts.{Part, States, Until, Chooses, Around, part, into, in_loop, in_list, opening, opened, declarations_in, parts_of, parts_within, parts_in, clauses_in}
use Rattle.efl_program.specs.Typed.{Op, Plain, AndThen, OrElse, Expr, Int, Truth, At, Call, Known, Group, Plus, Minus, Not, Up, Down, Pair, Assign, Exprs, NoExpr, AndExpr, WriteItem, Value, Skip, Chars, ReadItem, Take, Pass, Action, Evaluate, Invoke, Stmt}
use Rattle.efl_typed.specs.Typing.{Context, within, expr_of, action_of, labelled, written, taken, stmt_of, kind_of, stmts_from, clauses_from}
use Rattle.efl_typed.proofs.Each.{Each, each_left, each_right}
use Rattle.routes.specs.Routes.{Route, Routes}
use Rattle.routes.specs.Numbered.{bit, given, all_given}
use Rattle.efl_routes.specs.Expressions as ex
use Rattle.efl_routes.specs.Expressions.{combined, further, gathered}
use Rattle.efl_routes.specs.Statements as st
use Rattle.efl_routes.specs.Statements.{route, all_route, clause_route, default_route}
use Rattle.efl_lowered.specs.Grammatical.{default_constants}
use Rattle.efl_naming.proofs.Counts.{total, in_parts, own_part, parts_joined}

-- ---- what has no labels ----

behind : (a b : ℕ) → a ≡ b → 0 + a ≡ b
behind a b h = omega (h, arith)

module _ (home : ℕ → Text) (temp : Kind → ℕ → Text) (callee : ℕ → Text) (l : ℕ) where
  -- an operator's routes, where those of its right side have none
  combined_bare : (p : Place) (op : Op) (left : Formula) (right : Routes → Routes) (e t : Formula) (rest : Routes) → ((r : Routes) → all_given l (right r) ≡ all_given l r) →
      all_given l (combined p op left right e t rest) ≡ all_given l rest
  combined_bare p (Plain op) left right e t rest h = omega (h, arith)
  combined_bare p AndThen left right e t rest h = omega (h, arith)
  combined_bare p OrElse left right e t rest h = omega (h, arith)

  further_bare : (p : Place) (x : Text) (t : Formula) (m : ℕ) (es : Formulas) (rest : Routes) → all_given l (further p x t m es rest) ≡ all_given l rest
  further_bare p x t zero NoFormula rest = refl
  further_bare p x t (suc m) NoFormula rest = refl
  further_bare p x t (suc m) (AndFormula e es) rest = further_bare p x t m es rest
  further_bare p x t zero (AndFormula e es) rest = behind _ _ (further_bare p x t 58 es rest)

  gathered_bare : (p : Place) (x : Text) (t : Formula) (es : Formulas) (rest : Routes) → all_given l (gathered p x t es rest) ≡ all_given l rest
  gathered_bare p x t es rest = behind _ _ (further_bare p x t 60 es rest)

  mutual
    bare : (p : Place) (e : Expr) (n : ℕ) (rest : Routes) → all_given l (ex.routes home temp callee p e n rest) ≡ all_given l rest
    bare p (Int z) n rest = refl
    bare p (Truth b) n rest = refl
    bare p (At x) n rest = omega arith
    bare p (Call v k es) n rest = omega (actuals_bare p es n, arith)
    bare p (Known g es) n rest = all_bare p es n _ ∙ gathered_bare p (ex.intrinsic_name g) _ (ex.formulas home temp callee es n) rest
    bare p (Group a) n rest = bare p a n rest
    bare p (Plus a) n rest = omega (bare p a n, arith)
    bare p (Minus a) n rest = omega (bare p a n, arith)
    bare p (Not a) n rest = omega (bare p a n, arith)
    bare p (Up x) n rest = omega arith
    bare p (Down x) n rest = omega arith
    bare p (Pair op a b) n rest = bare p a n _ ∙ combined_bare p op _ (λ r. ex.routes home temp callee p b (n + ex.made a) r) _ _ rest (λ r. bare p b (n + ex.made a) r)
    bare p (Assign None x e) n rest = omega (bare p e n, arith)
    bare p (Assign (Some op) x e) n rest =
        behind _ _ (combined_bare p op _ (λ r. ex.routes home temp callee p e (n + 1) r) _ _ _ (λ r. bare p e (n + 1) r) ∙ behind _ _ refl)

    all_bare : (p : Place) (es : Exprs) (n : ℕ) (rest : Routes) → all_given l (ex.all_routes home temp callee p es n rest) ≡ all_given l rest
    all_bare p NoExpr n rest = refl
    all_bare p (AndExpr e es) n rest = bare p e n _ ∙ all_bare p es (n + ex.made e) rest

    actuals_bare : (p : Place) (es : Exprs) (n : ℕ) (rest : Routes) → all_given l (ex.actual_routes home temp callee p es n rest) ≡ all_given l rest
    actuals_bare p NoExpr n rest = refl
    actuals_bare p (AndExpr (At x) es) n rest = actuals_bare p es n rest
    actuals_bare p (AndExpr e es) n rest = bare p e n _ ∙ actuals_bare p es (n + ex.made e) rest

  module _ (f : Text → ℕ) (own : Text) where
    act_bare : (p : Place) (a : Action) (n : ℕ) (rest : Routes) → all_given l (st.act_routes home temp callee f own p a n rest) ≡ all_given l rest
    act_bare p (Evaluate e) n rest = bare p e n rest
    act_bare p (Invoke v es) n rest = omega (actuals_bare p es n, arith)

    any_act_bare : (p : Place) (a : Option Action) (n : ℕ) (rest : Routes) → all_given l (st.if_any home temp callee f own p a n rest) ≡ all_given l rest
    any_act_bare p None n rest = refl
    any_act_bare p (Some a) n rest = act_bare p a n rest

    unless_bare : (p : Place) (e : Option Expr) (n : ℕ) (rest : Routes) → all_given l (st.unless_any home temp callee f own p e n rest) ≡ all_given l rest
    unless_bare p None n rest = refl
    unless_bare p (Some e) n rest = omega (bare p e n, arith)

    first_bare : (p : Place) (e : Option Expr) (n : ℕ) (rest : Routes) → all_given l (st.first_if_any home temp callee f own p e n rest) ≡ all_given l rest
    first_bare p None n rest = refl
    first_bare p (Some e) n rest = bare p e n rest

    items_bare : (p : Place) (items : List WriteItem) (n : ℕ) (rest : Routes) → all_given l (st.item_routes home temp callee f own p items n rest) ≡ all_given l rest
    items_bare p [] n rest = refl
    items_bare p (Value e d ∷ items) n rest = bare p e n _ ∙ behind _ _ (items_bare p items (n + (ex.made e + 1)) rest)
    items_bare p (Skip i ∷ items) n rest = items_bare p items n rest
    items_bare p (Chars t ∷ items) n rest = items_bare p items n rest

    stores_bare : (p : Place) (items : List ReadItem) (n : ℕ) → all_given l (st.store_routes home temp callee f own p items n) ≡ 0
    stores_bare p [] n = refl
    stores_bare p (Take x d ∷ items) n = behind _ _ (stores_bare p items (n + 1))
    stores_bare p (Pass i ∷ items) n = stores_bare p items n

    cases_bare : (p : Place) (v : Formula) (zs : List ℤ) → all_given l (st.case_routes home temp callee f own p v zs) ≡ 0
    cases_bare p v [] = refl
    cases_bare p v (z ∷ zs) = behind _ _ (cases_bare p v zs)

    -- ---- statements ----

    -- where a label with the number l weighs at least one
    module _ (w : Text → ℕ) (weighs : (x : Text) → bit (nat_eq (f x) l) ≤ w x) (n : ℕ) where
      abbrev one : Stmt → List st.Around → ℕ → Route
      one s rs m = route home temp callee f own s rs m

      -- no part is a default with constants
      abbrev Single : Part → Type 0
      Single v = default_constants v.form ≡ []

      abbrev AreSingle : List Part → Type 0
      AreSingle vs = Each Single vs

      labelled_given : (ls : List Text) (p : Place) (s : Stmt) (rs : List st.Around) (m k : ℕ) → given l (one s rs m) ≤ k → given l (one (labelled ls p s) rs m) ≤ total w ls + k
      labelled_given [] p s rs m k h = omega (h, arith)
      labelled_given (x ∷ ls) p s rs m k h = let i = labelled_given ls p s rs m k h in let j = weighs x in omega (i, j, arith)

      -- the weights of the clauses that are defaults, and of the others
      abbrev defaults_in : ℕ → Around → EflCases → ℕ
      defaults_in m a NoCase = 0
      defaults_in m a (AndCase es fallback ss p cs) = (if fallback then in_parts w n (parts_in 0 (in_list ss (into m a)) ss) else 0) + defaults_in (m + 1) a cs

      abbrev others_in : ℕ → Around → EflCases → ℕ
      others_in m a NoCase = 0
      others_in m a (AndCase es fallback ss p cs) = (if fallback then 0 else in_parts w n (parts_in 0 (in_list ss (into m a)) ss)) + others_in (m + 1) a cs

      all_clauses : (m : ℕ) (a : Around) → a.unit ≡ n → (zs : List ℤ) (seen : Bool) (cs : EflCases) → defaults_in m a cs + others_in m a cs ≤ in_parts w n (clauses_in m a zs seen cs)
      all_clauses m a same zs seen NoCase = omega arith
      all_clauses m a same zs seen (AndCase es fallback ss p cs) =
          let body = parts_in 0 (in_list ss (into m a)) ss in
          let later = all_clauses (m + 1) a same (zs ++ es) (seen || fallback) cs in
          let both = parts_joined w n body (clauses_in (m + 1) a (zs ++ es) (seen || fallback) cs) in
          let head = own_part w n (part a p (Chooses es fallback zs seen)) same in
          let flag = by_flag fallback (in_parts w n body) in
          omega (later, both, head, flag, arith)
        where
          by_flag : (b : Bool) (k : ℕ) → (if b then k else 0) + (if b then 0 else k) ≡ k
          by_flag true k = omega arith
          by_flag false k = omega arith

      mutual
        stmt_given : (c : Context) → c.around.unit ≡ n → (s : EflStmt) → AreSingle (parts_of c.around s) → (rs : List st.Around) (m : ℕ) → given l (one (stmt_of c s) rs m) ≤ in_parts w n (parts_of c.around s)
        stmt_given c same (Statement ls p k) h rs m =
            let within_it = labelled_given ls p (kind_of c p k) rs m (in_parts w n (parts_within c.around k)) (kind_given c same p k h.1 rs m) in
            let head = own_part w n (part c.around p (States ls k)) same in
            omega (within_it, head, arith)

        kind_given : (c : Context) → c.around.unit ≡ n → (p : Place) (k : EflKind) → AreSingle (parts_within c.around k) → (rs : List st.Around) (m : ℕ) → given l (one (kind_of c p k) rs m) ≤ in_parts w n (parts_within c.around k)
        kind_given c same p efl.Empty h rs m = omega arith
        kind_given c same p (efl.Block ds ss) h rs m =
            let e = in_list ss (opened ds c.around) in
            let own_ones = stmts_given 0 (within c e) same ss (each_right Single (declarations_in (opening ds c.around) [] ds) (parts_in 0 e ss) h) rs m in
            let both = parts_joined w n (declarations_in (opening ds c.around) [] ds) (parts_in 0 e ss) in
            omega (own_ones, both, arith)
        kind_given c same p (efl.Act e) h rs m = omega (act_bare p (action_of c e) m, arith)
        kind_given c same p (efl.If e s) h rs m = omega (bare p (expr_of c e) m, stmt_given c same s h (st.Other ∷ rs) m, arith)
        kind_given c same p (efl.IfElse e s t) h rs m =
            let a = into 0 c.around in let b = into 1 c.around in
            let first = stmt_given (within c a) same s (each_left Single (parts_of a s) (parts_of b t) h) (st.Other ∷ st.Other ∷ rs) m in
            let second = stmt_given (within c b) same t (each_right Single (parts_of a s) (parts_of b t) h) (st.Other ∷ rs) m in
            let both = parts_joined w n (parts_of a s) (parts_of b t) in
            omega (bare p (expr_of c e) m, first, second, both, arith)
        kind_given c same p (efl.While e s) h rs m =
            let it = stmt_given (within c (in_loop loops.While c.around)) same s h (st.Next loops.While ∷ st.Behind loops.While ∷ rs) m in omega (bare p (expr_of c e) m, it, arith)
        kind_given c same p (efl.For a e b s) h rs m =
            let it = stmt_given (within c (in_loop loops.For c.around)) same s h (st.Next loops.For ∷ st.Behind loops.For ∷ rs) m in
            omega (any_act_bare p (option_map (action_of c) a) m, unless_bare p (option_map (expr_of c) e) m, any_act_bare p (option_map (action_of c) b) m, it, arith)
        kind_given c same p (efl.Repeat s) h rs m =
            let it = stmt_given (within c (in_loop loops.Repeat c.around)) same s h (st.Next loops.Repeat ∷ st.Behind loops.Repeat ∷ rs) m in omega (it, arith)
        kind_given c same p (efl.RepeatUntil s e q) h rs m =
            let a = in_loop loops.Repeat c.around in
            let it = stmt_given (within c a) same s (each_left Single (parts_of a s) (part c.around q (Until e) ∷ []) h) (st.Next loops.Repeat ∷ st.Behind loops.Repeat ∷ rs) m in
            let both = parts_joined w n (parts_of a s) (part c.around q (Until e) ∷ []) in
            omega (bare q (expr_of c e) m, it, both, arith)
        kind_given c same p (efl.Do x a b d s) h rs m =
            let kept = m + ex.made (expr_of c b) + st.made_if_any (option_map (expr_of c) d) in
            let it = stmt_given (within c (in_loop loops.Do c.around)) same s h (st.Next loops.Do ∷ st.Behind loops.Do ∷ rs) kept in
            omega (bare p (expr_of c b) m, first_bare p (option_map (expr_of c) d) (m + ex.made (expr_of c b)), bare p (expr_of c a) kept, it, arith)
        kind_given c same p (efl.Switch e cs) h rs m =
            let a = in_loop loops.Switch c.around in let d = within c a in
            let it = clauses_given d same 0 [] false cs h p (ex.formula home temp callee (expr_of c e) m) (default_route home temp callee f own (clauses_from 0 d cs)) (defaults_in 0 a cs) (default_given d same 0 [] false cs h) (st.Behind loops.Switch ∷ rs) (m + ex.made (expr_of c e)) in
            let both = all_clauses 0 a same [] false cs in
            omega (bare p (expr_of c e) m, it, both, arith)
        kind_given c same p (efl.Break i o) h rs m = omega arith
        kind_given c same p (efl.Next i o) h rs m = omega arith
        kind_given c same p (efl.Return None) h rs m = omega arith
        kind_given c same p (efl.Return (Some e)) h rs m = omega (bare p (expr_of c e) m, arith)
        kind_given c same p (efl.Goto x) h rs m = omega arith
        kind_given c same p (efl.Write e items) h rs m =
            let u = option_map (expr_of c) e in omega (first_bare p u m, items_bare p (map (written c) items) (m + st.made_if_any u), arith)
        kind_given c same p (efl.Read e items) h rs m =
            let u = option_map (expr_of c) e in omega (first_bare p u m, stores_bare p (map (taken c) items) (m + st.made_if_any u), arith)

        pub stmts_given : (k : ℕ) (c : Context) → c.around.unit ≡ n → (ss : EflStmts) → AreSingle (parts_in k c.around ss) → (rs : List st.Around) (m : ℕ) →
            all_given l (all_route home temp callee f own (stmts_from k c ss) rs m) ≤ in_parts w n (parts_in k c.around ss)
        stmts_given k c same efl.NoStmt h rs m = omega arith
        stmts_given k c same (efl.AndStmt s ss) h rs m =
            let a = into k c.around in
            let first = stmt_given (within c a) same s (each_left Single (parts_of a s) (parts_in (k + 1) c.around ss) h) rs m in
            let later = stmts_given (k + 1) c same ss (each_right Single (parts_of a s) (parts_in (k + 1) c.around ss) h) rs m in
            let both = parts_joined w n (parts_of a s) (parts_in (k + 1) c.around ss) in
            omega (first, later, both, arith)

        -- clauses before another route, which has labels of at most this weight
        clauses_given : (c : Context) → c.around.unit ≡ n → (k : ℕ) (before : List ℤ) (seen : Bool) (cs : EflCases) → AreSingle (clauses_in k c.around before seen cs) → (p : Place) (v : Formula) (other : List st.Around → ℕ → Route) (most : ℕ) →
            ((rs : List st.Around) (m : ℕ) → given l (other rs m) ≤ most) → (rs : List st.Around) (m : ℕ) → given l (clause_route home temp callee f own p v (clauses_from k c cs) other rs m) ≤ most + others_in k c.around cs
        clauses_given c same k before seen NoCase h p v other most g rs m = let i = g rs m in omega (i, arith)
        clauses_given c same k before seen (AndCase [] fallback ss q cs) h p v other most g rs m =
            let body = parts_in 0 (in_list ss (into k c.around)) ss in
            let later = clauses_given c same (k + 1) (before ++ []) (seen || fallback) cs (each_right Single body (clauses_in (k + 1) c.around (before ++ []) (seen || fallback) cs) h.1) p v other most g rs m in
            omega (later, arith)
        clauses_given c same k before seen (AndCase (z ∷ zs) true ss q cs) h p v other most g rs m = absurd (no_cons h.0)
          where
            no_cons : (z ∷ zs) ≡ [] → ⊥
            no_cons e = cc
        clauses_given c same k before seen (AndCase (z ∷ zs) false ss q cs) h p v other most g rs m =
            let a = in_list ss (into k c.around) in
            let body = parts_in 0 a ss in
            let rest = clauses_in (k + 1) c.around (before ++ z ∷ zs) (seen || false) cs in
            let own_ones = stmts_given 0 (within c a) same ss (each_left Single body rest h.1) (st.Other ∷ st.Other ∷ rs) m in
            let later = clauses_given c same (k + 1) (before ++ z ∷ zs) (seen || false) cs (each_right Single body rest h.1) p v other most g (st.Other ∷ rs) m in
            omega (cases_bare p v (z ∷ zs), own_ones, later, arith)

        default_given : (c : Context) → c.around.unit ≡ n → (k : ℕ) (before : List ℤ) (seen : Bool) (cs : EflCases) → AreSingle (clauses_in k c.around before seen cs) → (rs : List st.Around) (m : ℕ) →
            given l (default_route home temp callee f own (clauses_from k c cs) rs m) ≤ defaults_in k c.around cs
        default_given c same k before seen NoCase h rs m = omega arith
        default_given c same k before seen (AndCase zs true ss q cs) h rs m =
            let a = in_list ss (into k c.around) in
            let own_ones = stmts_given 0 (within c a) same ss (each_left Single (parts_in 0 a ss) (clauses_in (k + 1) c.around (before ++ zs) (seen || true) cs) h.1) rs m in
            omega (own_ones, arith)
        default_given c same k before seen (AndCase zs false ss q cs) h rs m =
            let later = default_given c same (k + 1) (before ++ zs) (seen || false) cs (each_right Single (parts_in 0 (in_list ss (into k c.around)) ss) (clauses_in (k + 1) c.around (before ++ zs) (seen || false) cs) h.1) rs m in
            omega (later, arith)
