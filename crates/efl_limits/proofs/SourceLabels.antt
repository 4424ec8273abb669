-- The labels that stand in a statement, and those of its jumps, are no more than its size.
use Rattle.std.proofs.Common.{◌≤◌, arith, length, length-append}
use Rattle.efl_program.specs.Typed.{Stmt, Empty, Block, Act, If, IfElse, While, For, Repeat, RepeatUntil, Do, Switch, Break, Next, Return, Goto, Write, Read, Labelled, Stmts, NoStmt, AndStmt, Clauses, NoClause, AndClause}
use Rattle.efl_lowered.specs.Labels.{labels_of, all_labels, clause_labels}
use Rattle.efl_limits.specs.Sizes.{stmt_size, stmts_size, clauses_size}
use Rattle.efl_limits.proofs.Needs.{clause_counts}

mutual
  stmt_labels : (s : Stmt) → length (labels_of s) ≤ stmt_size s
  stmt_labels (Empty p) = omega arith
  stmt_labels (Block p ss) = stmts_labels ss
  stmt_labels (Act p a) = omega arith
  stmt_labels (If p e s) = omega (arith, stmt_labels s)
  stmt_labels (IfElse p e s t) = omega (arith, length-append (labels_of s) (labels_of t), stmt_labels s, stmt_labels t)
  stmt_labels (While p e s) = omega (arith, stmt_labels s)
  stmt_labels (For p a e b s) = omega (arith, stmt_labels s)
  stmt_labels (Repeat p s) = omega (arith, stmt_labels s)
  stmt_labels (RepeatUntil p s e q) = omega (arith, stmt_labels s)
  stmt_labels (Do p v a z d s) = omega (arith, stmt_labels s)
  stmt_labels (Switch p e cs) = omega (arith, clauses_labels cs)
  stmt_labels (Break p i o) = omega arith
  stmt_labels (Next p i o) = omega arith
  stmt_labels (Return p e) = omega arith
  stmt_labels (Goto p l) = omega arith
  stmt_labels (Write p u items) = omega arith
  stmt_labels (Read p u items) = omega arith
  stmt_labels (Labelled l p s) = omega (arith, stmt_labels s)

  pub stmts_labels : (ss : Stmts) → length (all_labels ss) ≤ stmts_size ss
  stmts_labels NoStmt = omega arith
  stmts_labels (AndStmt s ss) = omega (arith, length-append (labels_of s) (all_labels ss), stmt_labels s, stmts_labels ss)

  clauses_labels : (cs : Clauses) → length (clause_labels cs) ≤ clauses_size cs
  clauses_labels NoClause = omega arith
  clauses_labels (AndClause zs fallback ss p cs) =
      omega (arith, length-append (all_labels ss) (clause_labels cs), stmts_labels ss, clauses_labels cs, clause_counts zs fallback (stmts_size ss))
