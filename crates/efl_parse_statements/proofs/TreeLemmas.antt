-- An `if` by what its part behind `else` gives.
use Rattle.std.proofs.Common.{◌≡◌, refl}
use Rattle.efl_tree.specs.Syntax.{EflExpr, EflStmt}
use Rattle.efl_parse_values.specs.Values.{Val}
use Rattle.efl_parse_values.specs.Values as val
use Rattle.efl_parse_values.specs.Kinds as part
use Rattle.efl_parse_statements.specs.Statements.{conditional}
use Rattle.efl_parse_statements.specs.Choices.{stmt_if_any, chosen}

pub choice_is : (e : EflExpr) (s : EflStmt) (v : Val) → conditional e s v ≡ chosen e s (stmt_if_any v)
choice_is e s (val.statement (part.stmt t)) = refl
choice_is e s _ = refl
