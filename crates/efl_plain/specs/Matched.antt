-- What the types of a program give of its calls: each actual has the type of the formal that it goes to.
use Rattle.std.specs.Prelude.{◌≡◌, ℕ, true, List, [], ◌∷◌, Option, Some, None, ⊤}
use Rattle.efl_tree.specs.Syntax.{EflProgram}
use Rattle.efl_program.specs.Typed.{Expr, Int, Truth, At, Call, Known, Group, Plus, Minus, Not, Up, Down, Pair, Assign, Exprs, NoExpr, AndExpr, Action, Evaluate, Invoke, WriteItem, Value, Skip, Chars, Stmt, Empty, Block, Act, If, IfElse, While, For, Repeat, RepeatUntil, Do, Switch, Break, Next, Return, Goto, Write, Read, Labelled, Stmts, NoStmt, AndStmt, Clauses, NoClause, AndClause}
use Rattle.efl_typed.specs.Typing.{bodies_of}
use Rattle.efl_routes.specs.Expressions.{type_of}
use Rattle.efl_lowered.specs.Facts.{is_unit, formals, has_scalar}

-- G holds of each call, by the procedure that is called and the actuals
module _ (G : ℕ → Exprs → Type 0) where
  abbrev mutual
    pub ExprCalls : Expr → Type 0
    ExprCalls (Int z) = ⊤
    ExprCalls (Truth b) = ⊤
    ExprCalls (At x) = ⊤
    ExprCalls (Call v k es) = G v es × ExprsCall es
    ExprCalls (Known g es) = ExprsCall es
    ExprCalls (Group a) = ExprCalls a
    ExprCalls (Plus a) = ExprCalls a
    ExprCalls (Minus a) = ExprCalls a
    ExprCalls (Not a) = ExprCalls a
    ExprCalls (Up x) = ⊤
    ExprCalls (Down x) = ⊤
    ExprCalls (Pair op a b) = ExprCalls a × ExprCalls b
    ExprCalls (Assign op x e) = ExprCalls e

    pub ExprsCall : Exprs → Type 0
    ExprsCall NoExpr = ⊤
    ExprsCall (AndExpr e es) = ExprCalls e × ExprsCall es

  abbrev pub CallsIfAny : Option Expr → Type 0
  CallsIfAny None = ⊤
  CallsIfAny (Some e) = ExprCalls e

  abbrev pub ActionCalls : Action → Type 0
  ActionCalls (Evaluate e) = ExprCalls e
  ActionCalls (Invoke v es) = G v es × ExprsCall es

  abbrev pub ActionIfAny : Option Action → Type 0
  ActionIfAny None = ⊤
  ActionIfAny (Some a) = ActionCalls a

  abbrev pub ItemsCall : List WriteItem → Type 0
  ItemsCall [] = ⊤
  ItemsCall (Value e d ∷ items) = ExprCalls e × ItemsCall items
  ItemsCall (Skip i ∷ items) = ItemsCall items
  ItemsCall (Chars t ∷ items) = ItemsCall items

  abbrev mutual
    pub StmtCalls : Stmt → Type 0
    StmtCalls (Empty p) = ⊤
    StmtCalls (Block p ss) = StmtsCall ss
    StmtCalls (Act p a) = ActionCalls a
    StmtCalls (If p e s) = ExprCalls e × StmtCalls s
    StmtCalls (IfElse p e s t) = ExprCalls e × StmtCalls s × StmtCalls t
    StmtCalls (While p e s) = ExprCalls e × StmtCalls s
    StmtCalls (For p a e b s) = ActionIfAny a × CallsIfAny e × ActionIfAny b × StmtCalls s
    StmtCalls (Repeat p s) = StmtCalls s
    StmtCalls (RepeatUntil p s e q) = StmtCalls s × ExprCalls e
    StmtCalls (Do p v a z d s) = ExprCalls a × ExprCalls z × CallsIfAny d × StmtCalls s
    StmtCalls (Switch p e cs) = ExprCalls e × ClausesCall cs
    StmtCalls (Break p i o) = ⊤
    StmtCalls (Next p i o) = ⊤
    StmtCalls (Return p e) = CallsIfAny e
    StmtCalls (Goto p l) = ⊤
    StmtCalls (Write p u items) = CallsIfAny u × ItemsCall items
    StmtCalls (Read p u items) = CallsIfAny u
    StmtCalls (Labelled l p s) = StmtCalls s

    pub StmtsCall : Stmts → Type 0
    StmtsCall NoStmt = ⊤
    StmtsCall (AndStmt s ss) = StmtCalls s × StmtsCall ss

    pub ClausesCall : Clauses → Type 0
    ClausesCall NoClause = ⊤
    ClausesCall (AndClause es fallback ss p cs) = StmtsCall ss × ClausesCall cs

-- each actual has the type of its formal, of so many as there are of both
abbrev pub AreOfTypes : EflProgram → ℕ → Exprs → List ℕ → Type 0
AreOfTypes p m (AndExpr e es) (v ∷ vs) = (has_scalar p m v (type_of e) ≡ true) × AreOfTypes p m es vs
AreOfTypes p m es vs = ⊤

abbrev pub AreMatched : EflProgram → Type 0
AreMatched p = (n : ℕ) → is_unit p n ≡ true → StmtsCall (λ m es. AreOfTypes p m es (formals p m)) (bodies_of p n)
