-- The labels of statements: those that stand in them, and those of their `goto`s.
use Rattle.std.specs.Prelude.{List, [], ◌∷◌, ◌++◌}
use Rattle.f66_tree.specs.Syntax.{Text}
use Rattle.efl_program.specs.Typed.{Stmt, Empty, Block, Act, If, IfElse, While, For, Repeat, RepeatUntil, Do, Switch, Break, Next, Return, Goto, Write, Read, Labelled, Stmts, NoStmt, AndStmt, Clauses, NoClause, AndClause}

abbrev mutual
  pub labels_of : Stmt → List Text
  labels_of (Empty p) = []
  labels_of (Block p ss) = all_labels ss
  labels_of (Act p a) = []
  labels_of (If p e s) = labels_of s
  labels_of (IfElse p e s t) = labels_of s ++ labels_of t
  labels_of (While p e s) = labels_of s
  labels_of (For p a e b s) = labels_of s
  labels_of (Repeat p s) = labels_of s
  labels_of (RepeatUntil p s e q) = labels_of s
  labels_of (Do p v a z d s) = labels_of s
  labels_of (Switch p e cs) = clause_labels cs
  labels_of (Break p i o) = []
  labels_of (Next p i o) = []
  labels_of (Return p e) = []
  labels_of (Goto p l) = l ∷ []
  labels_of (Write p u items) = []
  labels_of (Read p u items) = []
  labels_of (Labelled l p s) = l ∷ labels_of s

  pub all_labels : Stmts → List Text
  all_labels NoStmt = []
  all_labels (AndStmt s ss) = labels_of s ++ all_labels ss

  pub clause_labels : Clauses → List Text
  clause_labels NoClause = []
  clause_labels (AndClause es fallback ss p cs) = all_labels ss ++ clause_labels cs
