-- The routes that a statement of EFL becomes.
use Rattle.std.specs.Prelude.{◌≡◌, ◌≤◌, ℕ, zero, suc, ◌+◌, ℤ, pos, negsuc, neg_ℤ, int_le, int_lt, Bool, true, false, ◌&&◌, if◌then◌else◌, List, [], ◌∷◌, Option, Some, None, ⊤}
use Rattle.ground.specs.declared.place.Place.{Place}
use Rattle.ground.specs.declared.value.Kind.{Kind}
use Rattle.ground.specs.declared.value.Kind.TheVariants.{Integer, Logical}
use Rattle.f66_tree.specs.declared.editing.Way.TheVariants.{Reading, Writing}
use Rattle.f66_tree.specs.declared.expression.Operator.TheVariants.{Add, Le, Eq}
use Rattle.f66_tree.specs.Syntax as f66
use Rattle.f66_tree.specs.Syntax.{Text, Formula}
use Rattle.efl_program.specs.Typed as efl
use Rattle.efl_tree.specs.declared.statement.LoopKind.{LoopKind}
use Rattle.efl_tree.specs.declared.statement.LoopKind.TheVariants as loop_kinds
use Rattle.efl_program.specs.Typed.{Expr, Exprs, WriteItem, Value, Skip, Chars, ReadItem, Take, Pass, Action, Evaluate, Invoke, Stmt, Empty, Act, If, IfElse, While, For, Repeat, RepeatUntil, Do, Switch, Return, Goto, Write, Read, Stmts, NoStmt, AndStmt, Clauses, NoClause, AndClause}
use Rattle.efl_program.specs.Meaning.{leaves, turns_one, pred_of, kind_by, written_by, read_by}
use Rattle.efl_program.specs.Places.{sort_of, kind_of}
use Rattle.routes.specs.Routes.{Route, Plain, BreakIf, Break, Ring, Cycle, Block, InTurn, Labelled, Transfer, Routes, NoRoute, AndRoute, only}
use Rattle.efl_routes.specs.Expressions.{count, made, made_for, formula, actuals, routes, actual_routes, sets, type_of, site_formula, Scalars, AllScalars, ScalarSite}

-- a ring around a statement: of no statement of the source, one behind which a loop or switch is left, and one behind which the
-- next turn of a loop begins
pub data Around : Type 0 where
  Other : Around
  Behind : LoopKind → Around
  Next : LoopKind → Around

-- how many rings more than the innermost a `break` leaves, and a `next`
abbrev pub on_match : Bool → ℕ → (ℕ → ℕ) → ℕ
on_match true zero on = zero
on_match true (suc n) on = suc (on n)
on_match false n on = suc (on n)

abbrev pub leave_depth : List Around → Option LoopKind → ℕ → ℕ
leave_depth [] o n = 0
leave_depth (Behind k ∷ rs) o n = on_match (leaves o k) n (leave_depth rs o)
leave_depth (Other ∷ rs) o n = suc (leave_depth rs o n)
leave_depth (Next k ∷ rs) o n = suc (leave_depth rs o n)

abbrev pub again_depth : List Around → Option LoopKind → ℕ → ℕ
again_depth [] o n = 0
again_depth (Next k ∷ rs) o n = on_match (turns_one o k) n (again_depth rs o)
again_depth (Other ∷ rs) o n = suc (again_depth rs o n)
again_depth (Behind k ∷ rs) o n = suc (again_depth rs o n)

abbrev pub made_if_any : Option Expr → ℕ
made_if_any None = 0
made_if_any (Some e) = made e

abbrev pub made_items : List WriteItem → ℕ
made_items [] = 0
made_items (Value e d ∷ items) = made e + 1 + made_items items
made_items (Skip i ∷ items) = made_items items
made_items (Chars t ∷ items) = made_items items

-- a constant of a clause, below zero with a sign of its own
abbrev pub signed : ℤ → Formula
signed z = if int_le (negsuc 2147483646) z && int_lt z (pos 0) then f66.Minus (f66.Int (neg_ℤ z)) else f66.Int z

module _ (home : ℕ → Text) (temp : Kind → ℕ → Text) (callee : ℕ → Text) (label : Text → ℕ) (own : Text) where
  abbrev value : Expr → ℕ → Formula
  value e n = formula home temp callee e n

  abbrev first : Place → Expr → ℕ → Routes → Routes
  first p e n rest = routes home temp callee p e n rest

  -- so many rings are left where a condition does not hold, or where it does
  abbrev pub unless : Place → Expr → ℕ → ℕ → Routes → Routes
  unless p e n k rest = first p e n (AndRoute (BreakIf p (f66.Not (value e n)) k) rest)

  abbrev pub where_so : Place → Expr → ℕ → ℕ → Routes → Routes
  where_so p e n k rest = first p e n (AndRoute (BreakIf p (value e n) k) rest)

  abbrev pub unless_any : Place → Option Expr → ℕ → Routes → Routes
  unless_any p None n rest = rest
  unless_any p (Some e) n rest = unless p e n 0 rest

  abbrev pub act_routes : Place → Action → ℕ → Routes → Routes
  act_routes p (Evaluate e) n rest = first p e n rest
  act_routes p (Invoke v es) n rest = actual_routes home temp callee p es n (AndRoute (Plain p (f66.Invoke (callee v) (actuals home temp callee es n))) rest)

  abbrev pub if_any : Place → Option Action → ℕ → Routes → Routes
  if_any p None n rest = rest
  if_any p (Some a) n rest = act_routes p a n rest

  -- the constants of a clause: where none of them is the value, one ring more is left
  abbrev pub case_routes : Place → Formula → List ℤ → Routes
  case_routes p v [] = only (Break p 1)
  case_routes p v (c ∷ cs) = AndRoute (BreakIf p (f66.Pair Eq v (signed c)) 0) (case_routes p v cs)

  -- an integer variable with another value, by an operator
  abbrev variable : ℕ → Formula
  variable v = f66.Ref (home v)

  abbrev spare : Kind → ℕ → Formula
  spare k n = f66.Ref (temp k n)

  abbrev pub limit_routes : Place → ℕ → Formula → ℕ → Routes
  limit_routes p v limit n = AndRoute (sets p (spare Integer n) (variable v)) (AndRoute (sets p (spare Logical (n + 1)) (f66.Pair Le (spare Integer n) limit)) (only (BreakIf p (f66.Not (spare Logical (n + 1))) 0)))

  abbrev pub step_routes : Place → ℕ → Formula → ℕ → Routes
  step_routes p v by n = AndRoute (sets p (spare Integer n) (variable v)) (AndRoute (sets p (spare Integer (n + 1)) (f66.Pair Add (spare Integer n) by)) (only (sets p (variable v) (spare Integer (n + 1)))))

  abbrev pub value_or_one : Option Expr → ℕ → Formula
  value_or_one None n = f66.Int (pos 1)
  value_or_one (Some e) n = value e n

  abbrev pub first_if_any : Place → Option Expr → ℕ → Routes → Routes
  first_if_any p None n rest = rest
  first_if_any p (Some e) n rest = first p e n rest

  -- the unit of a `write` or `read`
  abbrev pub par_of : Formula → f66.Par
  par_of (f66.Int z) = f66.Constant z
  par_of (f66.Ref x) = f66.Named x
  par_of e = f66.Constant (pos 0)

  abbrev pub unit_par : ℤ → Option Expr → ℕ → f66.Par
  unit_par z None n = f66.Constant z
  unit_par z (Some e) n = par_of (value e n)

  -- each item is put into a temporary of its own
  abbrev pub item_routes : Place → List WriteItem → ℕ → Routes → Routes
  item_routes p [] n rest = rest
  item_routes p (Value e d ∷ items) n rest = first p e n (AndRoute (sets p (spare (kind_by d) (n + made e)) (value e n)) (item_routes p items (n + (made e + 1)) rest))
  item_routes p (Skip i ∷ items) n rest = item_routes p items n rest
  item_routes p (Chars t ∷ items) n rest = item_routes p items n rest

  abbrev pub entries : List WriteItem → ℕ → f66.Entries
  entries [] n = f66.NoEntry
  entries (Value e d ∷ items) n = f66.AndEntry (f66.One (spare (kind_by d) (n + made e))) (entries items (n + (made e + 1)))
  entries (Skip i ∷ items) n = entries items n
  entries (Chars t ∷ items) n = entries items n

  -- what is read comes into temporaries, and is stored when the record is done
  abbrev pub read_entries : List ReadItem → ℕ → f66.Entries
  read_entries [] n = f66.NoEntry
  read_entries (Take x d ∷ items) n = f66.AndEntry (f66.One (spare (kind_by d) n)) (read_entries items (n + 1))
  read_entries (Pass i ∷ items) n = read_entries items n

  abbrev pub store_routes : Place → List ReadItem → ℕ → Routes
  store_routes p [] n = NoRoute
  store_routes p (Take x d ∷ items) n = AndRoute (sets p (site_formula home temp callee x) (spare (kind_by d) n)) (store_routes p items (n + 1))
  store_routes p (Pass i ∷ items) n = store_routes p items n

  -- n temporaries are in use
  abbrev mutual
    pub route : Stmt → List Around → ℕ → Route
    route (Empty p) rs n = InTurn NoRoute
    route (efl.Block p ss) rs n = Block (all_route ss rs n)
    route (Act p a) rs n = InTurn (act_routes p a n NoRoute)
    route (If p e s) rs n = InTurn (first p e n (only (Ring p (AndRoute (BreakIf p (f66.Not (value e n)) 0) (only (route s (Other ∷ rs) n))))))
    route (IfElse p e s t) rs n =
        InTurn (first p e n (only (Ring p (AndRoute (Ring p (AndRoute (BreakIf p (f66.Not (value e n)) 0) (AndRoute (route s (Other ∷ Other ∷ rs) n) (only (Break p 1))))) (only (route t (Other ∷ rs) n))))))
    route (While p e s) rs n = Cycle p (unless p e n 0 NoRoute) (only (Ring p (only (route s (Next loop_kinds.While ∷ Behind loop_kinds.While ∷ rs) n))))
    route (For p a e b s) rs n = InTurn (if_any p a n (only (Cycle p (unless_any p e n NoRoute) (AndRoute (Ring p (only (route s (Next loop_kinds.For ∷ Behind loop_kinds.For ∷ rs) n))) (if_any p b n NoRoute)))))
    route (Repeat p s) rs n = Cycle p NoRoute (only (Ring p (only (route s (Next loop_kinds.Repeat ∷ Behind loop_kinds.Repeat ∷ rs) n))))
    route (RepeatUntil p s e q) rs n = Cycle p NoRoute (AndRoute (Ring p (only (route s (Next loop_kinds.Repeat ∷ Behind loop_kinds.Repeat ∷ rs) n))) (where_so q e n 0 NoRoute))
    route (Do p v a z d s) rs n =
        InTurn (first p z n (first_if_any p d (n + made z) (first p a (n + made z + made_if_any d) (AndRoute (sets p (variable v) (value a (n + made z + made_if_any d)))
        (only (Cycle p (limit_routes p v (value z n) (n + made z + made_if_any d)) (AndRoute (Ring p (only (route s (Next loop_kinds.Do ∷ Behind loop_kinds.Do ∷ rs) (n + made z + made_if_any d)))) (step_routes p v (value_or_one d (n + made z)) (n + made z + made_if_any d)))))))))
    route (Switch p e cs) rs n = InTurn (first p e n (only (Ring p (only (clause_route p (value e n) cs (default_route cs) (Behind loop_kinds.Switch ∷ rs) (n + made e))))))
    route (efl.Break p i o) rs n = Break p (leave_depth rs o (pred_of i))
    route (efl.Next p i o) rs n = Break p (again_depth rs o (pred_of i))
    route (Return p None) rs n = Plain p f66.Return
    route (Return p (Some e)) rs n = InTurn (first p e n (AndRoute (sets p (f66.Ref own) (value e n)) (only (Plain p f66.Return))))
    route (Goto p l) rs n = Plain p (f66.Goto (label l))
    route (Write p u items) rs n = InTurn (first_if_any p u n (item_routes p items (n + made_if_any u) (only (Transfer p Writing (unit_par (pos 6) u n) (written_by items) (entries items (n + made_if_any u))))))
    route (Read p u items) rs n = InTurn (first_if_any p u n (AndRoute (Transfer p Reading (unit_par (pos 5) u n) (read_by items) (read_entries items (n + made_if_any u))) (store_routes p items (n + made_if_any u))))
    route (efl.Labelled l p s) rs n = Labelled (label l) p (route s rs n)

    pub all_route : Stmts → List Around → ℕ → Routes
    all_route NoStmt rs n = NoRoute
    all_route (AndStmt s ss) rs n = AndRoute (route s rs n) (all_route ss rs n)

    -- the clauses one behind the other, and then the default, which has no constants
    pub clause_route : Place → Formula → Clauses → (List Around → ℕ → Route) → List Around → ℕ → Route
    clause_route q v NoClause other rs n = other rs n
    clause_route q v (AndClause [] fallback ss p cs) other rs n = clause_route q v cs other rs n
    clause_route q v (AndClause (e ∷ es) fallback ss p cs) other rs n =
        Ring q (AndRoute (Ring q (AndRoute (Ring q (case_routes q v (e ∷ es))) (AndRoute (Block (all_route ss (Other ∷ Other ∷ rs) n)) (only (Break q 1))))) (only (clause_route q v cs other (Other ∷ rs) n)))

    pub default_route : Clauses → List Around → ℕ → Route
    default_route NoClause rs n = InTurn NoRoute
    default_route (AndClause es fallback ss p cs) rs n = if fallback then (Block (all_route ss rs n)) else default_route cs rs n

-- What holds of a statement that is lowered: its expressions are over scalar variables, conditions are logical, and the
-- temporaries that it needs are declared, where n are in use.
module _ (M : ℕ → Kind → Type 0) (F : ℕ → Kind → ℕ → Type 0) (C : ℕ → ℕ → Type 0) (room : ℕ) (gives : Type 0) where
  abbrev pub Fit : Expr → ℕ → Type 0
  Fit e n = Scalars M F e × (n + made e ≤ room)

  abbrev pub Condition : Expr → ℕ → Type 0
  Condition e n = (type_of e ≡ Logical) × Fit e n

  abbrev pub ConditionIfAny : Option Expr → ℕ → Type 0
  ConditionIfAny None n = ⊤
  ConditionIfAny (Some e) n = Condition e n

  abbrev pub FitAct : Action → ℕ → Type 0
  FitAct (Evaluate e) n = Fit e n
  FitAct (Invoke v es) n = C v (count es) × AllScalars M F es × (n + made_for es ≤ room)

  abbrev pub ActIfAny : Option Action → ℕ → Type 0
  ActIfAny None n = ⊤
  ActIfAny (Some a) n = FitAct a n

  -- the values of a `write` are of the types of their edits
  abbrev pub ItemsFit : List WriteItem → ℕ → Type 0
  ItemsFit [] n = ⊤
  ItemsFit (Value e d ∷ items) n = (type_of e ≡ kind_by d) × Scalars M F e × (n + (made e + 1) ≤ room) × ItemsFit items (n + (made e + 1))
  ItemsFit (Skip i ∷ items) n = ItemsFit items n
  ItemsFit (Chars t ∷ items) n = ItemsFit items n

  -- what is read goes into scalar variables of the types of their edits
  abbrev pub TakenFit : List ReadItem → ℕ → Type 0
  TakenFit [] n = ⊤
  TakenFit (Take x d ∷ items) n = ScalarSite M x × (kind_of (sort_of x) ≡ kind_by d) × (n + 1 ≤ room) × TakenFit items (n + 1)
  TakenFit (Pass i ∷ items) n = TakenFit items n

  abbrev pub FitIfAny : Option Expr → ℕ → Type 0
  FitIfAny None n = ⊤
  FitIfAny (Some e) n = (type_of e ≡ Integer) × Fit e n

  abbrev mutual
    pub Ready : Stmt → ℕ → Type 0
    Ready (Empty p) n = ⊤
    Ready (efl.Block p ss) n = AllReady ss n
    Ready (Act p a) n = FitAct a n
    Ready (If p e s) n = Condition e n × Ready s n
    Ready (IfElse p e s t) n = Condition e n × Ready s n × Ready t n
    Ready (While p e s) n = Condition e n × Ready s n
    Ready (For p a e b s) n = ActIfAny a n × ConditionIfAny e n × ActIfAny b n × Ready s n
    Ready (Repeat p s) n = Ready s n
    Ready (RepeatUntil p s e q) n = Condition e n × Ready s n
    Ready (Do p v a z d s) n =
        M v Integer × ((type_of z ≡ Integer) × Fit z n) × FitIfAny d (n + made z) × Fit a (n + made z + made_if_any d) × (n + made z + made_if_any d + 2 ≤ room) × Ready s (n + made z + made_if_any d)
    Ready (Switch p e cs) n = ((type_of e ≡ Integer) × Fit e n) × ClausesReady cs (n + made e)
    Ready (efl.Break p i o) n = ⊤
    Ready (efl.Next p i o) n = ⊤
    Ready (Return p None) n = ⊤
    Ready (Return p (Some e)) n = gives × Fit e n
    Ready (Goto p l) n = ⊤
    Ready (Write p u items) n = FitIfAny u n × ItemsFit items (n + made_if_any u)
    Ready (Read p u items) n = FitIfAny u n × TakenFit items (n + made_if_any u)
    Ready (efl.Labelled l p s) n = Ready s n

    pub AllReady : Stmts → ℕ → Type 0
    AllReady NoStmt n = ⊤
    AllReady (AndStmt s ss) n = Ready s n × AllReady ss n

    pub ClausesReady : Clauses → ℕ → Type 0
    ClausesReady NoClause n = ⊤
    ClausesReady (AndClause es fallback ss p cs) n = AllReady ss n × ClausesReady cs n
