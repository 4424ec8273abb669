-- Statements with other places.
use Rattle.std.specs.Prelude.{Option, Some, None}
use Rattle.ground.specs.declared.place.Place.{Place}
use Rattle.efl_program.specs.Typed.{Stmt, Empty, Block, Act, If, IfElse, While, For, Repeat, RepeatUntil, Do, Switch, Break, Next, Return, Goto, Write, Read, Labelled, Stmts, NoStmt, AndStmt, Clauses, NoClause, AndClause}

abbrev mutual
  pub relocated : (Place → Place) → Stmt → Stmt
  relocated g (Empty p) = Empty (g p)
  relocated g (Block p ss) = Block (g p) (all_relocated g ss)
  relocated g (Act p a) = Act (g p) a
  relocated g (If p e s) = If (g p) e (relocated g s)
  relocated g (IfElse p e s t) = IfElse (g p) e (relocated g s) (relocated g t)
  relocated g (While p e s) = While (g p) e (relocated g s)
  relocated g (For p a e b s) = For (g p) a e b (relocated g s)
  relocated g (Repeat p s) = Repeat (g p) (relocated g s)
  relocated g (RepeatUntil p s e q) = RepeatUntil (g p) (relocated g s) e (g q)
  relocated g (Do p v a z d s) = Do (g p) v a z d (relocated g s)
  relocated g (Switch p e cs) = Switch (g p) e (clauses_relocated g cs)
  relocated g (Break p n o) = Break (g p) n o
  relocated g (Next p n o) = Next (g p) n o
  relocated g (Return p e) = Return (g p) e
  relocated g (Goto p l) = Goto (g p) l
  relocated g (Write p u items) = Write (g p) u items
  relocated g (Read p u items) = Read (g p) u items
  relocated g (Labelled l p s) = Labelled l (g p) (relocated g s)

  pub all_relocated : (Place → Place) → Stmts → Stmts
  all_relocated g NoStmt = NoStmt
  all_relocated g (AndStmt s ss) = AndStmt (relocated g s) (all_relocated g ss)

  pub clauses_relocated : (Place → Place) → Clauses → Clauses
  clauses_relocated g NoClause = NoClause
  clauses_relocated g (AndClause es fallback ss p cs) = AndClause es fallback (all_relocated g ss) (g p) (clauses_relocated g cs)
