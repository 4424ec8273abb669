-- How many temporaries a statement needs: the most that are in use at once within it, where n are in use before it.
use Rattle.std.specs.Prelude.{◌≡◌, ◌≤◌, ℕ, ◌+◌, max, true, List, [], ◌∷◌, Option, Some, None}
use Rattle.efl_program.specs.Typed.{WriteItem, Value, Skip, Chars, ReadItem, Take, Pass, Action, Evaluate, Invoke, Stmt, Empty, Block, Act, If, IfElse, While, For, Repeat, RepeatUntil, Do, Switch, Break, Next, Return, Goto, Write, Read, Labelled, Stmts, NoStmt, AndStmt, Clauses, NoClause, AndClause}
use Rattle.efl_tree.specs.Syntax.{EflProgram}
use Rattle.efl_typed.specs.Typing.{bodies_of}
use Rattle.efl_routes.specs.Expressions.{made, made_for}
use Rattle.efl_routes.specs.Statements.{made_if_any}
use Rattle.efl_lowered.specs.Naming.{Naming}
use Rattle.efl_lowered.specs.Facts.{is_unit}

abbrev pub of_act : Action → ℕ → ℕ
of_act (Evaluate e) n = n + made e
of_act (Invoke v es) n = n + made_for es

abbrev pub of_any : Option Action → ℕ → ℕ
of_any None n = n
of_any (Some a) n = of_act a n

-- each item of a `write` has a temporary besides those of its expression, and each of a `read` one
abbrev pub of_items : List WriteItem → ℕ → ℕ
of_items [] n = n
of_items (Value e d ∷ items) n = of_items items (n + (made e + 1))
of_items (Skip i ∷ items) n = of_items items n
of_items (Chars t ∷ items) n = of_items items n

abbrev pub of_taken : List ReadItem → ℕ → ℕ
of_taken [] n = n
of_taken (Take x d ∷ items) n = of_taken items (n + 1)
of_taken (Pass i ∷ items) n = of_taken items n

-- within a `do` the limit and the step are kept, and two are needed to turn
abbrev mutual
  pub needs : Stmt → ℕ → ℕ
  needs (Empty p) n = n
  needs (Block p ss) n = all_need ss n
  needs (Act p a) n = of_act a n
  needs (If p e s) n = max (n + made e) (needs s n)
  needs (IfElse p e s t) n = max (n + made e) (max (needs s n) (needs t n))
  needs (While p e s) n = max (n + made e) (needs s n)
  needs (For p a e b s) n = max (of_any a n) (max (n + made_if_any e) (max (of_any b n) (needs s n)))
  needs (Repeat p s) n = needs s n
  needs (RepeatUntil p s e q) n = max (n + made e) (needs s n)
  needs (Do p v a z d s) n = let kept = n + made z + made_if_any d in max (kept + made a) (max (kept + 2) (needs s kept))
  needs (Switch p e cs) n = max (n + made e) (clauses_need cs (n + made e))
  needs (Break p i o) n = n
  needs (Next p i o) n = n
  needs (Return p e) n = n + made_if_any e
  needs (Goto p l) n = n
  needs (Write p u items) n = of_items items (n + made_if_any u)
  needs (Read p u items) n = of_taken items (n + made_if_any u)
  needs (Labelled l p s) n = needs s n

  pub all_need : Stmts → ℕ → ℕ
  all_need NoStmt n = n
  all_need (AndStmt s ss) n = max (needs s n) (all_need ss n)

  pub clauses_need : Clauses → ℕ → ℕ
  clauses_need NoClause n = n
  clauses_need (AndClause es fallback ss p cs) n = max (all_need ss n) (clauses_need cs n)

-- each procedure has room for as many as its body needs
abbrev pub HasRoom : EflProgram → Naming → Type 0
HasRoom p names = (n : ℕ) → is_unit p n ≡ true → all_need (bodies_of p n) 0 ≤ names.room n
