-- The trees in memory, as plain data.
use Rattle.std.specs.Prelude.{ℕ, Option, None, Some, List, [], ◌∷◌, map}
use Rattle.ground.specs.declared.place.Place.{Place}
use Rattle.f66_tree.specs.declared.expression.Expr.{Expr}
use Rattle.f66_tree.specs.declared.statement.StmtKind.{StmtKind}
use Rattle.f66_tree.specs.Syntax.{Formula, Act}
use Rattle.f66_tree.specs.Views.{formula_of, formulas_of, par_of, act_of, header_of}
use Rattle.rat_tree.specs.declared.program.RatStmt.{RatStmt}
use Rattle.rat_tree.specs.declared.program.RatCase.{RatCase, RatCase'}
use Rattle.rat_tree.specs.declared.program.RatKind.{RatKind}
use Rattle.rat_tree.specs.declared.program.RatKind.TheBlock as k
use Rattle.rat_tree.specs.declared.program.RatUnit.{RatUnit}
use Rattle.rat_tree.specs.declared.program.RatProgram as programs
use Rattle.rat_tree.specs.Syntax.{Command, Empty, Block, If, IfElse, While, For, Repeat, RepeatUntil, Do, Switch, Break, Next, Return, Plain, Labelled, Commands, NoCommand, AndCommand, Clauses, NoClause, AndClause, RatRoutine, RatProgram}

abbrev pub act_if_any : Option StmtKind → Option Act
act_if_any None = None
act_if_any (Some a) = Some (act_of a)

abbrev pub formula_if_any : Option Expr → Option Formula
formula_if_any None = None
formula_if_any (Some e) = Some (formula_of e)

abbrev pub repeated : Place → Command → Option (Expr × Place) → Command
repeated p s None = Repeat p s
repeated p s (Some u) = RepeatUntil p s (formula_of u.0) u.1

-- a statement that isn't plain, with its label
abbrev pub labelled : Option ℕ → Place → Command → Command
labelled None p c = c
labelled (Some l) p c = Labelled l p c

abbrev mutual
  pub command_of : Option ℕ → Place → RatKind → Command
  command_of l p k.Empty = labelled l p (Empty p)
  command_of l p (k.Block' shape all) = labelled l p (Block p (row_commands all))
  command_of l p (k.If' e q l1 p1 s other) = labelled l p (either_of p (formula_of e) (command_of l1 p1 s) other)
  command_of l p (k.While' e q l1 p1 s) = labelled l p (While p (formula_of e) (command_of l1 p1 s))
  command_of l p (k.For' h q l1 p1 s) = labelled l p (For p (act_if_any h.value.first) (formula_if_any h.value.test) (act_if_any h.value.step) (command_of l1 p1 s))
  command_of l p (k.Repeat' q l1 p1 s o) = labelled l p (repeated p (command_of l1 p1 s) o)
  command_of l p (k.Do' c q l1 p1 s) = labelled l p (Do p c.value.variable (par_of c.value.first) (par_of c.value.last) (par_of c.value.step) (command_of l1 p1 s))
  command_of l p (k.Switch' e shape all) = labelled l p (Switch p (formula_of e) (row_clauses all))
  command_of l p (k.Break n) = labelled l p (Break p n)
  command_of l p (k.Next n) = labelled l p (Next p n)
  command_of l p (k.Return e) = labelled l p (Return p (formula_if_any e))
  command_of l p (k.Plain a) = Plain l p (act_of a)

  pub either_of : Place → Formula → Command → k.Held-RatKind-If-2 → Command
  either_of p e s k.None' = If p e s
  either_of p e s (k.Some' q l1 p1 t) = IfElse p e s (command_of l1 p1 t)

  pub row_commands : {m : _} → k.Row_of-RatStmt m → Commands
  row_commands k.end_of-RatStmt = NoCommand
  row_commands (k.more_of-RatStmt l p s rest) = AndCommand (command_of l p s) (row_commands rest)

  pub row_clauses : {m : _} → k.Row_of-RatCase m → Clauses
  row_clauses k.end_of-RatCase = NoClause
  row_clauses (k.more_of-RatCase c rest) = clause_then c (row_clauses rest)

  -- a clause, and what follows it
  pub clause_then : RatCase → Clauses → Clauses
  clause_then (RatCase' tests fallback shape body p) rest = AndClause (formulas_of tests.items) fallback (row_commands body) p rest

-- a statement in memory
abbrev pub command : RatStmt → Command
command s = command_of s.label s.place s.kind

-- several
abbrev pub commands : List RatStmt → Commands
commands [] = NoCommand
commands (s ∷ ss) = AndCommand (command s) (commands ss)

abbrev pub clauses : List RatCase → Clauses
clauses [] = NoClause
clauses (c ∷ cs) = clause_then c (clauses cs)

abbrev pub rat_routine_of : RatUnit → RatRoutine
rat_routine_of u = record { header = header_of u.header; body = commands u.body.items; place = u.place }

abbrev pub program_of : programs.RatProgram → RatProgram
program_of p = record { routines = map rat_routine_of p.units.items; finish = p.finish }
