-- An `if` by what its part behind `else` gives in memory.
use Rattle.std.specs.Prelude.{Option, None, Some}
use Rattle.std.specs.declared.alloc.Global.{Global}
use Rattle.std.specs.declared.boxed.Box.{Box}
use Rattle.efl_tree.specs.declared.statement.EflStmt as stmts
use Rattle.efl_tree.specs.Syntax.{EflExpr, EflStmt, EflKind, If, IfElse}
use Rattle.efl_tree.specs.Views.{stmt_of}
use Rattle.efl_parse_values.specs.Values.{Val}
use Rattle.efl_parse_values.specs.Values as val
use Rattle.efl_parse_values.specs.Kinds as part

abbrev pub stmt_if_any : Val → Option EflStmt
stmt_if_any (val.statement (part.stmt s)) = Some s
stmt_if_any _ = None

abbrev pub boxed_stmt : Option (Box stmts.EflStmt Global) → Option EflStmt
boxed_stmt None = None
boxed_stmt (Some b) = Some (stmt_of b.value)

abbrev pub chosen : EflExpr → EflStmt → Option EflStmt → EflKind
chosen e s None = If e s
chosen e s (Some t) = IfElse e s t
