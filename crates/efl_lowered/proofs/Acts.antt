-- The statements of a lowered procedure: each is a plain one, and they name no function but those that the procedure calls.
use Rattle.std.proofs.Common.{◌≡◌, ℕ, ◌+◌, Bool, true, false, List, [], ◌∷◌, ◌++◌, Option, None, Some, refl, ap, ◌∙◌, if◌then◌else◌, ◌||◌}
use Rattle.std.specs.Prelude.{⊤, ℤ, pos, negsuc, neg_ℤ, int_le, int_lt, ◌&&◌}
use Rattle.std.specs.List.{list_any}
use Rattle.std.specs.Str.{bytes_eq}
use Rattle.std.proofs.lemmas.List.Folds.{list_any-append}
use Rattle.ground.specs.declared.place.Place.{Place}
use Rattle.ground.specs.declared.value.Kind.{Kind}
use Rattle.ground.specs.declared.value.Kind.TheVariants.{Integer}
use Rattle.f66_tree.specs.declared.editing.Way.TheVariants.{Reading, Writing}
use Rattle.f66_tree.specs.Syntax as f66
use Rattle.f66_tree.specs.Syntax.{Text, Formula, Formulas, NoFormula, AndFormula, Par, Constant, Named, Entries, Line}
use Rattle.f66_tree.specs.Units.{Context}
use Rattle.f66_tree.specs.Evaluation.{Intrinsic, Sort, AnArray, AnIntrinsic, AFunction, sort_of}
use Rattle.f66_program.specs.Mentions.{Mention, mentions_of, mentions_of_all, mentions_of_par, mentions_of_entries, mentions_in, applied, is_function, mentioned}
use Rattle.efl_program.specs.Typed as efl
use Rattle.efl_program.specs.Typed.{Op, AndThen, OrElse, Expr, Int, Truth, At, Call, Known, Group, Not, Up, Down, Pair, Assign, Exprs, NoExpr, AndExpr, Action, Evaluate, Invoke, WriteItem, Value, Skip, Chars, ReadItem, Take, Pass, Stmt, Empty, Act, If, IfElse, While, For, Repeat, RepeatUntil, Do, Switch, Next, Return, Goto, Write, Read, Stmts, NoStmt, AndStmt, Clauses, NoClause, AndClause}
use Rattle.routes.specs.Routes.{Route, Plain, BreakIf, Break, Ring, Cycle, Block, InTurn, Labelled, Transfer, Routes, NoRoute, AndRoute}
use Rattle.routes.specs.Code.{Behind, jump, here, labels, all_labels, code_of, all_code}
use Rattle.routes.specs.Placed.{IsPlain}
use Rattle.routes.specs.Numbered.{OnlyPlain, AllPlain}
use Rattle.efl_routes.specs.Expressions.{intrinsic_name, made, made_in, or_one, formula, formulas, actuals, routes, all_routes, actual_routes, combined, Scalars, AllScalars}
use Rattle.efl_routes.specs.Statements.{Around, Other, route, all_route, clause_route, default_route, signed, case_routes, item_routes, entries, read_entries, store_routes, unit_par, first_if_any, unless_any, if_any, act_routes, made_if_any, Ready, AllReady, ClausesReady, FitAct, ActIfAny, ConditionIfAny, FitIfAny, ItemsFit, TakenFit}
use Rattle.efl_routes.specs.Statements as statements
use Rattle.efl_routes.proofs.Gathering.{EachFormula, gathered_hold}

module _ (T : Type 0) (q : Text) (c : Context) where
  abbrev names_it : Mention → Bool
  names_it m = is_function q m

  -- where T holds, none of them names q as a function
  abbrev pub IsQuiet : List Mention → Type 0
  IsQuiet ms = T → list_any (is_function q) ms ≡ false

  pub quiet_on : (xs ys : List Mention) → list_any (is_function q) xs ≡ false → list_any (is_function q) ys ≡ false → list_any (is_function q) (xs ++ ys) ≡ false
  quiet_on xs ys h k = list_any-append names_it xs ys ∙ ap (λ b. b || list_any (is_function q) ys) h ∙ k

  abbrev mutual
    pub Quiet : Route → Type 0
    Quiet (Plain p a) = IsPlain a × IsQuiet (mentions_in c a)
    Quiet (BreakIf p e k) = IsQuiet (mentions_of c e)
    Quiet (Break p k) = ⊤
    Quiet (Ring p rs) = AllQuiet rs
    Quiet (Cycle p top rest) = AllQuiet top × AllQuiet rest
    Quiet (Block rs) = AllQuiet rs
    Quiet (InTurn rs) = AllQuiet rs
    Quiet (Labelled m p r) = Quiet r
    Quiet (Transfer p way u fs es) = IsQuiet (mentions_of_par u ++ mentions_of_entries c es)

    pub AllQuiet : Routes → Type 0
    AllQuiet NoRoute = ⊤
    AllQuiet (AndRoute r rs) = Quiet r × AllQuiet rs

  -- ---- what follows of the lines ----

  mutual
    plain_route : (r : Route) → Quiet r → OnlyPlain r
    plain_route (Plain p a) h = h.0
    plain_route (BreakIf p e k) h = tt
    plain_route (Break p k) h = tt
    plain_route (Ring p rs) h = plain_all rs h
    plain_route (Cycle p top rest) h = (plain_all top h.0, plain_all rest h.1)
    plain_route (Block rs) h = plain_all rs h
    plain_route (InTurn rs) h = plain_all rs h
    plain_route (Labelled m p r) h = plain_route r h
    plain_route (Transfer p way u fs es) h = tt

    pub plain_all : (rs : Routes) → AllQuiet rs → AllPlain rs
    plain_all NoRoute h = tt
    plain_all (AndRoute r rs) h = (plain_route r h.0, plain_all rs h.1)

  module _ (made1 : ℕ → ℕ) (holds : T) where
    -- the lines before others
    abbrev Names : List Line → Bool
    Names lines = mentioned (is_function q) c lines

    mutual
      quiet_code : (r : Route) (n : ℕ) (ls : Behind) (next : List Line) → Quiet r → Names (code_of made1 r n ls next) ≡ Names next
      quiet_code (Plain p a) n ls next h = ap (λ b. b || Names next) (h.1 holds)
      quiet_code (BreakIf p e k) n ls next h = ap (λ b. b || Names next) (quiet_on (mentions_of c e) [] (h holds) refl)
      quiet_code (Break p k) n ls next h = refl
      quiet_code (Ring p rs) n ls next h = quiet_lines rs (n + 1) (made1 n ∷ ls) (here (made1 n) p ∷ next) h
      quiet_code (Cycle p top rest) n ls next h =
          let out = jump p (made1 n) ∷ here (made1 (n + 1)) p ∷ next in
          quiet_lines top (n + 2) (made1 (n + 1) ∷ ls) (all_code made1 rest (n + 2 + all_labels top) (made1 (n + 1) ∷ ls) out) h.0 ∙ quiet_lines rest (n + 2 + all_labels top) (made1 (n + 1) ∷ ls) out h.1
      quiet_code (Block rs) n ls next h = quiet_lines rs n ls next h
      quiet_code (InTurn rs) n ls next h = quiet_lines rs n ls next h
      quiet_code (Labelled m p r) n ls next h = quiet_code r n ls next h
      quiet_code (Transfer p Reading u fs es) n ls next h = ap (λ b. b || Names next) (h holds)
      quiet_code (Transfer p Writing u fs es) n ls next h = ap (λ b. b || Names next) (h holds)

      pub quiet_lines : (rs : Routes) (n : ℕ) (ls : Behind) (next : List Line) → AllQuiet rs → Names (all_code made1 rs n ls next) ≡ Names next
      quiet_lines NoRoute n ls next h = refl
      quiet_lines (AndRoute r rs) n ls next h = quiet_code r n ls (all_code made1 rs (n + labels r) ls next) h.0 ∙ quiet_lines rs (n + labels r) ls next h.1

  -- ---- the lowered procedure ----

  applied_quiet : (x : Text) (es : Formulas) (s : Sort) → bytes_eq q x ≡ false → is_function q (applied x es s) ≡ false
  applied_quiet x es (AnArray ns) h = refl
  applied_quiet x es (AnIntrinsic g) h = h
  applied_quiet x es AFunction h = h

  item_quiet : (x : Text) (es : Formulas) → bytes_eq q x ≡ false → list_any (is_function q) (mentions_of_all c es) ≡ false → list_any (is_function q) (mentions_of c (f66.Item x es)) ≡ false
  item_quiet x es h k = ap (λ b. b || list_any (is_function q) (mentions_of_all c es)) (applied_quiet x es (sort_of c x) h) ∙ k

  or_one_quiet : (es : Formulas) → list_any (is_function q) (mentions_of_all c es) ≡ false → list_any (is_function q) (mentions_of_all c (or_one es)) ≡ false
  or_one_quiet NoFormula h = refl
  or_one_quiet (AndFormula e es) h = h

  par_quiet : (u : Par) → list_any (is_function q) (mentions_of_par u) ≡ false
  par_quiet (Constant z) = refl
  par_quiet (Named x) = refl

  transfer_quiet : (u : Par) (es : Entries) → list_any (is_function q) (mentions_of_entries c es) ≡ false → list_any (is_function q) (mentions_of_par u ++ mentions_of_entries c es) ≡ false
  transfer_quiet u es h = quiet_on (mentions_of_par u) (mentions_of_entries c es) (par_quiet u) h

  module _ (home : ℕ → Text) (temp : Kind → ℕ → Text) (callee : ℕ → Text) (label : Text → ℕ) (own : Text) where
    leaf_quiet : (e : Expr) (n : ℕ) → list_any (is_function q) (mentions_of c (formula home temp callee e n)) ≡ false
    leaf_quiet (Int z) n = refl
    leaf_quiet (Truth b) n = refl
    leaf_quiet (At x) n = refl
    leaf_quiet (Call v k es) n = refl
    leaf_quiet (Known g es) n = refl
    leaf_quiet (Group a) n = leaf_quiet a n
    leaf_quiet (efl.Plus a) n = refl
    leaf_quiet (efl.Minus a) n = refl
    leaf_quiet (Not a) n = refl
    leaf_quiet (Up x) n = refl
    leaf_quiet (Down x) n = refl
    leaf_quiet (Pair op a b) n = refl
    leaf_quiet (Assign None x e) n = leaf_quiet e n
    leaf_quiet (Assign (Some op) x e) n = refl

    abbrev QuietFormula : Formula → Type 0
    QuietFormula e = list_any (is_function q) (mentions_of c e) ≡ false

    leaves_quiet : (es : Exprs) (n : ℕ) → EachFormula QuietFormula (formulas home temp callee es n)
    leaves_quiet NoExpr n = tt
    leaves_quiet (AndExpr e es) n = (leaf_quiet e n, leaves_quiet es (n + made e))

    each_quiet : (es : Formulas) → EachFormula QuietFormula es → list_any (is_function q) (mentions_of_all c es) ≡ false
    each_quiet NoFormula h = refl
    each_quiet (AndFormula e es) h = quiet_on (mentions_of c e) (mentions_of_all c es) h.0 (each_quiet es h.1)

    value_quiet : (e : Expr) (es : Exprs) (n : ℕ) → list_any (is_function q) (mentions_of_all c (actuals home temp callee es (n + made e))) ≡ false → list_any (is_function q) (mentions_of c (formula home temp callee e n) ++ mentions_of_all c (actuals home temp callee es (n + made e))) ≡ false
    value_quiet e es n h = quiet_on (mentions_of c (formula home temp callee e n)) (mentions_of_all c (actuals home temp callee es (n + made e))) (leaf_quiet e n) h

    actuals_quiet : (es : Exprs) (n : ℕ) → list_any (is_function q) (mentions_of_all c (actuals home temp callee es n)) ≡ false
    actuals_quiet NoExpr n = refl
    actuals_quiet (AndExpr (At x) es) n = actuals_quiet es n
    actuals_quiet (AndExpr (Int z) es) n = value_quiet (Int z) es n (actuals_quiet es (n + made (Int z)))
    actuals_quiet (AndExpr (Truth b) es) n = value_quiet (Truth b) es n (actuals_quiet es (n + made (Truth b)))
    actuals_quiet (AndExpr (Call v k as') es) n = value_quiet (Call v k as') es n (actuals_quiet es (n + made (Call v k as')))
    actuals_quiet (AndExpr (Known g as') es) n = value_quiet (Known g as') es n (actuals_quiet es (n + made (Known g as')))
    actuals_quiet (AndExpr (Group a) es) n = value_quiet (Group a) es n (actuals_quiet es (n + made (Group a)))
    actuals_quiet (AndExpr (efl.Plus a) es) n = value_quiet (efl.Plus a) es n (actuals_quiet es (n + made (efl.Plus a)))
    actuals_quiet (AndExpr (efl.Minus a) es) n = value_quiet (efl.Minus a) es n (actuals_quiet es (n + made (efl.Minus a)))
    actuals_quiet (AndExpr (Not a) es) n = value_quiet (Not a) es n (actuals_quiet es (n + made (Not a)))
    actuals_quiet (AndExpr (Up x) es) n = value_quiet (Up x) es n (actuals_quiet es (n + made (Up x)))
    actuals_quiet (AndExpr (Down x) es) n = value_quiet (Down x) es n (actuals_quiet es (n + made (Down x)))
    actuals_quiet (AndExpr (Pair op a b) es) n = value_quiet (Pair op a b) es n (actuals_quiet es (n + made (Pair op a b)))
    actuals_quiet (AndExpr (Assign op x a) es) n = value_quiet (Assign op x a) es n (actuals_quiet es (n + made (Assign op x a)))

    combined_quiet : (p : Place) (op : Op) (left : Formula) (right : Routes → Routes) (e : Formula) (x : Text) (rest : Routes) → list_any (is_function q) (mentions_of c left) ≡ false → list_any (is_function q) (mentions_of c e) ≡ false →
        ((r : Routes) → AllQuiet r → AllQuiet (right r)) → AllQuiet rest → AllQuiet (combined p op left right e (f66.Ref x) rest)
    combined_quiet p (efl.Plain op) left right e x rest h k go ok = go _ ((tt, λ t. quiet_on (mentions_of c left) (mentions_of c e) h k), ok)
    combined_quiet p AndThen left right e x rest h k go ok = ((tt, λ t. h), ((λ t. refl, go _ ((tt, λ t. k), tt)), ok))
    combined_quiet p OrElse left right e x rest h k go ok = ((tt, λ t. h), ((λ t. refl, go _ ((tt, λ t. k), tt)), ok))

    module _ (M : ℕ → Kind → Type 0) (F : ℕ → Kind → ℕ → Type 0) (C : ℕ → ℕ → Type 0) (room : ℕ) (gives : Type 0) (free : (v : ℕ) (k : Kind) (m : ℕ) → F v k m → T → bytes_eq q (callee v) ≡ false) (free_too : (v m : ℕ) → C v m → T → bytes_eq q (callee v) ≡ false)
        (known : (g : Intrinsic) → T → bytes_eq q (intrinsic_name g) ≡ false) where
      mutual
        expr_quiet : (e : Expr) → Scalars M F e → (p : Place) (n : ℕ) (rest : Routes) → AllQuiet rest → AllQuiet (routes home temp callee p e n rest)
        expr_quiet (Int z) h p n rest ok = ok
        expr_quiet (Truth b) h p n rest ok = ok
        expr_quiet (At x) h p n rest ok = ((tt, λ t. refl), ok)
        expr_quiet (Call v k es) h p n rest ok =
            actual_quiet es h.1 p n _ ((tt, λ t. item_quiet (callee v) (or_one (actuals home temp callee es n)) (free v k _ h.0 t) (or_one_quiet (actuals home temp callee es n) (actuals_quiet es n))), ok)
        expr_quiet (Known g es) h p n rest ok =
            exprs_quiet es h p n _
            (gathered_hold AllQuiet QuietFormula p (intrinsic_name g) (f66.Ref (temp Integer (n + made_in es))) (λ fs r k quiet. ((tt, λ t. item_quiet (intrinsic_name g) fs (known g t) (each_quiet fs k)), quiet)) refl (formulas home temp callee es n) rest (leaves_quiet es n) ok)
        expr_quiet (Group a) h p n rest ok = expr_quiet a h p n rest ok
        expr_quiet (efl.Plus a) h p n rest ok = expr_quiet a h p n _ ((tt, λ t. leaf_quiet a n), ok)
        expr_quiet (efl.Minus a) h p n rest ok = expr_quiet a h p n _ ((tt, λ t. leaf_quiet a n), ok)
        expr_quiet (Not a) h p n rest ok = expr_quiet a h p n _ ((tt, λ t. leaf_quiet a n), ok)
        expr_quiet (Up x) h p n rest ok = ((tt, λ t. refl), ((tt, λ t. refl), ((tt, λ t. refl), ok)))
        expr_quiet (Down x) h p n rest ok = ((tt, λ t. refl), ((tt, λ t. refl), ((tt, λ t. refl), ok)))
        expr_quiet (Pair op a b) h p n rest ok =
            expr_quiet a h.1 p n _ (combined_quiet p op (formula home temp callee a n) (λ r. routes home temp callee p b (n + made a) r) (formula home temp callee b (n + made a)) _ rest (leaf_quiet a n) (leaf_quiet b (n + made a)) (λ r k. expr_quiet b h.2 p (n + made a) r k) ok)
        expr_quiet (Assign None x e) h p n rest ok = expr_quiet e h.1 p n _ ((tt, λ t. leaf_quiet e n), ok)
        expr_quiet (Assign (Some op) x e) h p n rest ok =
            ((tt, λ t. refl), combined_quiet p op _ (λ r. routes home temp callee p e (n + 1) r) (formula home temp callee e (n + 1)) _ _ refl (leaf_quiet e (n + 1)) (λ r k. expr_quiet e h.2 p (n + 1) r k) ((tt, λ t. refl), ok))

        exprs_quiet : (es : Exprs) → AllScalars M F es → (p : Place) (n : ℕ) (rest : Routes) → AllQuiet rest → AllQuiet (all_routes home temp callee p es n rest)
        exprs_quiet NoExpr h p n rest ok = ok
        exprs_quiet (AndExpr e es) h p n rest ok = expr_quiet e h.0 p n _ (exprs_quiet es h.1 p (n + made e) rest ok)

        actual_quiet : (es : Exprs) → AllScalars M F es → (p : Place) (n : ℕ) (rest : Routes) → AllQuiet rest → AllQuiet (actual_routes home temp callee p es n rest)
        actual_quiet NoExpr h p n rest ok = ok
        actual_quiet (AndExpr (At x) es) h p n rest ok = actual_quiet es h.1 p n rest ok
        actual_quiet (AndExpr (Int z) es) h p n rest ok = expr_quiet (Int z) h.0 p n _ (actual_quiet es h.1 p (n + made (Int z)) rest ok)
        actual_quiet (AndExpr (Truth b) es) h p n rest ok = expr_quiet (Truth b) h.0 p n _ (actual_quiet es h.1 p (n + made (Truth b)) rest ok)
        actual_quiet (AndExpr (Call v k as') es) h p n rest ok = expr_quiet (Call v k as') h.0 p n _ (actual_quiet es h.1 p (n + made (Call v k as')) rest ok)
        actual_quiet (AndExpr (Known g as') es) h p n rest ok = expr_quiet (Known g as') h.0 p n _ (actual_quiet es h.1 p (n + made (Known g as')) rest ok)
        actual_quiet (AndExpr (Group a) es) h p n rest ok = expr_quiet (Group a) h.0 p n _ (actual_quiet es h.1 p (n + made (Group a)) rest ok)
        actual_quiet (AndExpr (efl.Plus a) es) h p n rest ok = expr_quiet (efl.Plus a) h.0 p n _ (actual_quiet es h.1 p (n + made (efl.Plus a)) rest ok)
        actual_quiet (AndExpr (efl.Minus a) es) h p n rest ok = expr_quiet (efl.Minus a) h.0 p n _ (actual_quiet es h.1 p (n + made (efl.Minus a)) rest ok)
        actual_quiet (AndExpr (Not a) es) h p n rest ok = expr_quiet (Not a) h.0 p n _ (actual_quiet es h.1 p (n + made (Not a)) rest ok)
        actual_quiet (AndExpr (Up x) es) h p n rest ok = expr_quiet (Up x) h.0 p n _ (actual_quiet es h.1 p (n + made (Up x)) rest ok)
        actual_quiet (AndExpr (Down x) es) h p n rest ok = expr_quiet (Down x) h.0 p n _ (actual_quiet es h.1 p (n + made (Down x)) rest ok)
        actual_quiet (AndExpr (Pair op a b) es) h p n rest ok = expr_quiet (Pair op a b) h.0 p n _ (actual_quiet es h.1 p (n + made (Pair op a b)) rest ok)
        actual_quiet (AndExpr (Assign op x a) es) h p n rest ok = expr_quiet (Assign op x a) h.0 p n _ (actual_quiet es h.1 p (n + made (Assign op x a)) rest ok)

      -- ---- statements ----

      any_quiet : (p : Place) (o : Option Expr) (n : ℕ) (rest : Routes) → FitIfAny M F C room gives o n → AllQuiet rest → AllQuiet (first_if_any home temp callee label own p o n rest)
      any_quiet p None n rest h ok = ok
      any_quiet p (Some e) n rest h ok = expr_quiet e h.1.0 p n rest ok

      act_quiet : (p : Place) (a : Action) (n : ℕ) (rest : Routes) → FitAct M F C room gives a n → AllQuiet rest → AllQuiet (act_routes home temp callee label own p a n rest)
      act_quiet p (Evaluate e) n rest h ok = expr_quiet e h.0 p n rest ok
      act_quiet p (Invoke v es) n rest h ok =
          actual_quiet es h.1 p n _ ((tt, λ t. ap (λ b. b || list_any (is_function q) (mentions_of_all c (actuals home temp callee es n))) (free_too v _ h.0 t) ∙ actuals_quiet es n), ok)

      act_any_quiet : (p : Place) (o : Option Action) (n : ℕ) (rest : Routes) → ActIfAny M F C room gives o n → AllQuiet rest → AllQuiet (if_any home temp callee label own p o n rest)
      act_any_quiet p None n rest h ok = ok
      act_any_quiet p (Some a) n rest h ok = act_quiet p a n rest h ok

      unless_quiet : (p : Place) (o : Option Expr) (n : ℕ) (rest : Routes) → ConditionIfAny M F C room gives o n → AllQuiet rest → AllQuiet (unless_any home temp callee label own p o n rest)
      unless_quiet p None n rest h ok = ok
      unless_quiet p (Some e) n rest h ok = expr_quiet e h.1.0 p n _ (λ t. leaf_quiet e n, ok)

      signed_quiet : (z : ℤ) → list_any (is_function q) (mentions_of c (signed z)) ≡ false
      signed_quiet z = either (int_le (negsuc 2147483646) z && int_lt z (pos 0))
        where
          either : (b : Bool) → list_any (is_function q) (mentions_of c (if b then (f66.Minus (f66.Int (neg_ℤ z))) else (f66.Int z))) ≡ false
          either true = refl
          either false = refl

      cases_quiet : (p : Place) (v : Formula) (zs : List ℤ) → list_any (is_function q) (mentions_of c v) ≡ false → AllQuiet (case_routes home temp callee label own p v zs)
      cases_quiet p v [] h = (tt, tt)
      cases_quiet p v (z ∷ zs) h = (λ t. quiet_on (mentions_of c v) (mentions_of c (signed z)) h (signed_quiet z), cases_quiet p v zs h)

      items_quiet : (p : Place) (xs : List WriteItem) (n : ℕ) (rest : Routes) → ItemsFit M F C room gives xs n → AllQuiet rest → AllQuiet (item_routes home temp callee label own p xs n rest)
      items_quiet p [] n rest h ok = ok
      items_quiet p (Value e d ∷ xs) n rest h ok = expr_quiet e h.1 p n _ ((tt, λ t. leaf_quiet e n), items_quiet p xs (n + (made e + 1)) rest h.3 ok)
      items_quiet p (Skip i ∷ xs) n rest h ok = items_quiet p xs n rest h ok
      items_quiet p (Chars x ∷ xs) n rest h ok = items_quiet p xs n rest h ok

      entries_quiet : (xs : List WriteItem) (n : ℕ) → list_any (is_function q) (mentions_of_entries c (entries home temp callee label own xs n)) ≡ false
      entries_quiet [] n = refl
      entries_quiet (Value e d ∷ xs) n = entries_quiet xs (n + (made e + 1))
      entries_quiet (Skip i ∷ xs) n = entries_quiet xs n
      entries_quiet (Chars x ∷ xs) n = entries_quiet xs n

      taken_quiet : (xs : List ReadItem) (n : ℕ) → list_any (is_function q) (mentions_of_entries c (read_entries home temp callee label own xs n)) ≡ false
      taken_quiet [] n = refl
      taken_quiet (Take x d ∷ xs) n = taken_quiet xs (n + 1)
      taken_quiet (Pass i ∷ xs) n = taken_quiet xs n

      stores_quiet : (p : Place) (xs : List ReadItem) (n : ℕ) → AllQuiet (store_routes home temp callee label own p xs n)
      stores_quiet p [] n = tt
      stores_quiet p (Take x d ∷ xs) n = ((tt, λ t. refl), stores_quiet p xs (n + 1))
      stores_quiet p (Pass i ∷ xs) n = stores_quiet p xs n

      chosen_quiet : (b : Bool) (r s : Route) → Quiet r → Quiet s → Quiet (if b then r else s)
      chosen_quiet true r s h k = h
      chosen_quiet false r s h k = k

      by_or_one_quiet : (o : Option Expr) (n : ℕ) → list_any (is_function q) (mentions_of c (statements.value_or_one home temp callee label own o n)) ≡ false
      by_or_one_quiet None n = refl
      by_or_one_quiet (Some e) n = leaf_quiet e n

      abbrev IsReady : Stmt → ℕ → Type 0
      IsReady s n = Ready M F C room gives s n

      abbrev way : Stmt → List Around → ℕ → Route
      way s rs n = route home temp callee label own s rs n

      abbrev default_way : Clauses → List Around → ℕ → Route
      default_way cs rs n = default_route home temp callee label own cs rs n

      mutual
        stmt_quiet : (s : Stmt) (rs : List Around) (n : ℕ) → IsReady s n → Quiet (way s rs n)
        stmt_quiet (Empty p) rs n h = tt
        stmt_quiet (efl.Block p ss) rs n h = all_quiet ss rs n h
        stmt_quiet (Act p a) rs n h = act_quiet p a n NoRoute h tt
        stmt_quiet (If p e s) rs n h = expr_quiet e h.0.1.0 p n _ ((λ t. leaf_quiet e n, (stmt_quiet s (Other ∷ rs) n h.1, tt)), tt)
        stmt_quiet (IfElse p e s t) rs n h =
            expr_quiet e h.0.1.0 p n _ (((λ i. leaf_quiet e n, (stmt_quiet s (Other ∷ Other ∷ rs) n h.1, (tt, tt))), (stmt_quiet t (Other ∷ rs) n h.2, tt)), tt)
        stmt_quiet (While p e s) rs n h = (expr_quiet e h.0.1.0 p n _ (λ t. leaf_quiet e n, tt), ((stmt_quiet s _ n h.1, tt), tt))
        stmt_quiet (For p a e b s) rs n h = act_any_quiet p a n _ h.0 ((unless_quiet p e n NoRoute h.1 tt, ((stmt_quiet s _ n h.3, tt), act_any_quiet p b n NoRoute h.2 tt)), tt)
        stmt_quiet (Repeat p s) rs n h = (tt, ((stmt_quiet s _ n h, tt), tt))
        stmt_quiet (RepeatUntil p s e r) rs n h = (tt, ((stmt_quiet s _ n h.1, tt), expr_quiet e h.0.1.0 r n _ (λ t. leaf_quiet e n, tt)))
        stmt_quiet (Do p v a z d s) rs n h =
            let m = n + made z + made_if_any d in
            expr_quiet z h.1.1.0 p n _ (any_quiet p d (n + made z) _ h.2 (expr_quiet a h.3.0 p m _ (
              (tt, λ t. leaf_quiet a m),
              ((((tt, λ t. refl), ((tt, λ t. leaf_quiet z n), (λ t. refl, tt))), ((stmt_quiet s _ m h.5, tt), ((tt, λ t. refl), ((tt, λ t. by_or_one_quiet d (n + made z)), ((tt, λ t. refl), tt))))), tt),
            )))
        stmt_quiet (Switch p e cs) rs n h =
            expr_quiet e h.0.1.0 p n _ ((clauses_quiet p (formula home temp callee e n) cs (default_way cs) _ (n + made e) (leaf_quiet e n) (λ as'. default_quiet cs as' (n + made e) h.1) h.1, tt), tt)
        stmt_quiet (efl.Break p i o) rs n h = tt
        stmt_quiet (Next p i o) rs n h = tt
        stmt_quiet (Return p None) rs n h = (tt, λ t. refl)
        stmt_quiet (Return p (Some e)) rs n h = expr_quiet e h.1.0 p n _ ((tt, λ t. leaf_quiet e n), ((tt, λ t. refl), tt))
        stmt_quiet (Goto p l) rs n h = (tt, λ t. refl)
        stmt_quiet (Write p u xs) rs n h =
            any_quiet p u n _ h.0 (items_quiet p xs (n + made_if_any u) _ h.1 (λ t. transfer_quiet (unit_par home temp callee label own (pos 6) u n) (entries home temp callee label own xs (n + made_if_any u)) (entries_quiet xs (n + made_if_any u)), tt))
        stmt_quiet (Read p u xs) rs n h =
            any_quiet p u n _ h.0 (λ t. transfer_quiet (unit_par home temp callee label own (pos 5) u n) (read_entries home temp callee label own xs (n + made_if_any u)) (taken_quiet xs (n + made_if_any u)), stores_quiet p xs (n + made_if_any u))
        stmt_quiet (efl.Labelled l p s) rs n h = stmt_quiet s rs n h

        pub all_quiet : (ss : Stmts) (rs : List Around) (n : ℕ) → AllReady M F C room gives ss n → AllQuiet (all_route home temp callee label own ss rs n)
        all_quiet NoStmt rs n h = tt
        all_quiet (AndStmt s ss) rs n h = (stmt_quiet s rs n h.0, all_quiet ss rs n h.1)

        clauses_quiet : (p : Place) (v : Formula) (cs : Clauses) (fallen : List Around → ℕ → Route) (rs : List Around) (n : ℕ) → list_any (is_function q) (mentions_of c v) ≡ false → ((as' : List Around) → Quiet (fallen as' n)) → ClausesReady M F C room gives cs n →
            Quiet (clause_route home temp callee label own p v cs fallen rs n)
        clauses_quiet p v NoClause fallen rs n k go h = go rs
        clauses_quiet p v (AndClause [] fallback ss r cs) fallen rs n k go h = clauses_quiet p v cs fallen rs n k go h.1
        clauses_quiet p v (AndClause (z ∷ zs) fallback ss r cs) fallen rs n k go h =
            ((cases_quiet p v (z ∷ zs) k, (all_quiet ss _ n h.0, (tt, tt))), (clauses_quiet p v cs fallen (Other ∷ rs) n k go h.1, tt))

        default_quiet : (cs : Clauses) (rs : List Around) (n : ℕ) → ClausesReady M F C room gives cs n → Quiet (default_way cs rs n)
        default_quiet NoClause rs n h = tt
        default_quiet (AndClause es fallback ss p cs) rs n h = chosen_quiet fallback _ _ (all_quiet ss rs n h.0) (default_quiet cs rs n h.1)
