-- What is around a statement in memory, and what stands behind `else` and `until`.
use Rattle.std.specs.Prelude.{Option, Some, None, Box}
use Rattle.std.specs.declared.alloc.Global.{Global}
use Rattle.ground.specs.declared.place.Place.{Place}
use Rattle.efl_tree.specs.declared.expression.EflExpr.{EflExpr}
use Rattle.efl_tree.specs.declared.statement.EflStmt.{EflStmt}
use Rattle.efl_tree.specs.Views.{expr_of, stmt_of}
use Rattle.efl_scope.specs.declared.statements.Setting as settings
use Rattle.efl_scope.specs.ScopeRules.{Names}
use Rattle.efl_scope.specs.Uses.{uses_of}
use Rattle.efl_scope.specs.Sights.{Setting, Walk, noting, rule_of_uses, statement_seen}
use Rattle.efl_scope.specs.NameViews.{chain_of}
use Rattle.efl_scope.specs.BlockViews.{known_of}
use Rattle.efl_scope.specs.LoopViews.{loops_of}

abbrev pub setting_of : settings.Setting → Setting
setting_of s = record { known = known_of s.known.now; reach = chain_of s.reach.now; loops = loops_of s.loops.now }

abbrev pub other_seen : Names → Setting → Option (Box EflStmt Global) → Walk → Walk
other_seen agreeing a None w = w
other_seen agreeing a (Some other) w = statement_seen agreeing a (stmt_of other.value) w

abbrev pub until_seen : Setting → Option (EflExpr × Place) → Walk → Walk
until_seen a None w = w
until_seen a (Some u) w = noting u.1 (rule_of_uses a.known (uses_of (expr_of u.0))) w
