-- What keeps a program from being lost: each jump, `break` and `next` has where to go, and calls go down.
use Rattle.std.specs.Prelude.{◌≡◌, ◌⊎◌, ℕ, zero, suc, Bool, true, false, List, [], ◌∷◌, Option, Some, None, ⊤}
use Rattle.f66_tree.specs.Syntax.{Text}
use Rattle.efl_tree.specs.declared.statement.LoopKind.{LoopKind}
use Rattle.efl_tree.specs.declared.statement.LoopKind.TheVariants as loop_kinds
use Rattle.efl_program.specs.Typed.{Expr, Int, Truth, At, Call, Known, Group, Plus, Minus, Not, Up, Down, Pair, Assign, Exprs, NoExpr, AndExpr, Site, Variable, Member, Overlay, Action, Evaluate, Invoke, WriteItem, Value, Skip, Chars, ReadItem, Take, Pass, Stmt, Empty, Block, Act, If, IfElse, While, For, Repeat, RepeatUntil, Do, Switch, Break, Next, Return, Goto, Write, Read, Labelled, Stmts, NoStmt, AndStmt, Clauses, NoClause, AndClause}
use Rattle.efl_program.specs.Meaning.{leaves, turns_one, pred_of, stands}

-- whether there is a loop or switch for a `break`, and a loop for a `next`
abbrev pub can_on : Bool → ℕ → (ℕ → Type 0) → Type 0
can_on true zero further = ⊤
can_on true (suc n) further = further n
can_on false n further = further n

abbrev pub CanLeave : List LoopKind → Option LoopKind → ℕ → Type 0
CanLeave [] o n = ⊥
CanLeave (k ∷ ks) o n = can_on (leaves o k) n (CanLeave ks o)

abbrev pub CanTurn : List LoopKind → Option LoopKind → ℕ → Type 0
CanTurn [] o n = ⊥
CanTurn (k ∷ ks) o n = can_on (turns_one o k) n (CanTurn ks o)

-- the procedures that are called are some of which D holds
module _ (D : ℕ → Type 0) where
  abbrev mutual
    pub Down_in : Expr → Type 0
    Down_in (Int z) = ⊤
    Down_in (Truth b) = ⊤
    Down_in (At x) = Down_at x
    Down_in (Call v k es) = D v × Down_all es
    Down_in (Known g es) = Down_all es
    Down_in (Group a) = Down_in a
    Down_in (Plus a) = Down_in a
    Down_in (Minus a) = Down_in a
    Down_in (Not a) = Down_in a
    Down_in (Up x) = Down_at x
    Down_in (Down x) = Down_at x
    Down_in (Pair op a b) = Down_in a × Down_in b
    Down_in (Assign op x e) = Down_at x × Down_in e

    pub Down_all : Exprs → Type 0
    Down_all NoExpr = ⊤
    Down_all (AndExpr e es) = Down_in e × Down_all es

    pub Down_at : Site → Type 0
    Down_at (Variable v o es) = Down_all es
    Down_at (Member x m o es) = Down_at x × Down_all es
    Down_at (Overlay x o) = Down_at x

  abbrev pub Down_act : Action → Type 0
  Down_act (Evaluate e) = Down_in e
  Down_act (Invoke v es) = D v × Down_all es

  abbrev pub Down_any : Option Expr → Type 0
  Down_any None = ⊤
  Down_any (Some e) = Down_in e

  abbrev pub Act_any : Option Action → Type 0
  Act_any None = ⊤
  Act_any (Some a) = Down_act a

  abbrev pub Down_items : List WriteItem → Type 0
  Down_items [] = ⊤
  Down_items (Value e d ∷ xs) = Down_in e × Down_items xs
  Down_items (Skip n ∷ xs) = Down_items xs
  Down_items (Chars t ∷ xs) = Down_items xs

  abbrev pub Down_taken : List ReadItem → Type 0
  Down_taken [] = ⊤
  Down_taken (Take x d ∷ xs) = Down_at x × Down_taken xs
  Down_taken (Pass n ∷ xs) = Down_taken xs

  -- within these loops and switches, where labels may be reached of which R holds
  abbrev mutual
    pub Scoped : Stmt → List LoopKind → (Text → Type 0) → Type 0
    Scoped (Empty p) ks R = ⊤
    Scoped (Block p ss) ks R = AllScoped ss ks (λ l. (stands l ss ≡ true) ⊎ R l)
    Scoped (Act p a) ks R = Down_act a
    Scoped (If p e s) ks R = Down_in e × Scoped s ks R
    Scoped (IfElse p e s t) ks R = Down_in e × Scoped s ks R × Scoped t ks R
    Scoped (While p e s) ks R = Down_in e × Scoped s (loop_kinds.While ∷ ks) R
    Scoped (For p a e b s) ks R = Act_any a × Down_any e × Act_any b × Scoped s (loop_kinds.For ∷ ks) R
    Scoped (Repeat p s) ks R = Scoped s (loop_kinds.Repeat ∷ ks) R
    Scoped (RepeatUntil p s e q) ks R = Down_in e × Scoped s (loop_kinds.Repeat ∷ ks) R
    Scoped (Do p v a z d s) ks R = Down_in a × Down_in z × Down_any d × Scoped s (loop_kinds.Do ∷ ks) R
    Scoped (Switch p e cs) ks R = Down_in e × ClausesScoped cs (loop_kinds.Switch ∷ ks) R
    Scoped (Break p n o) ks R = CanLeave ks o (pred_of n)
    Scoped (Next p n o) ks R = CanTurn ks o (pred_of n)
    Scoped (Return p e) ks R = Down_any e
    Scoped (Goto p l) ks R = R l
    Scoped (Write p u xs) ks R = Down_any u × Down_items xs
    Scoped (Read p u xs) ks R = Down_any u × Down_taken xs
    Scoped (Labelled l p s) ks R = Scoped s ks R

    pub AllScoped : Stmts → List LoopKind → (Text → Type 0) → Type 0
    AllScoped NoStmt ks R = ⊤
    AllScoped (AndStmt s ss) ks R = Scoped s ks R × AllScoped ss ks R

    pub ClausesScoped : Clauses → List LoopKind → (Text → Type 0) → Type 0
    ClausesScoped NoClause ks R = ⊤
    ClausesScoped (AndClause es fallback ss p cs) ks R = AllScoped ss ks (λ l. (stands l ss ≡ true) ⊎ R l) × ClausesScoped cs ks R
