-- What a statement needs beside another one, or beside a condition, where there is one.
use Rattle.std.specs.Prelude.{ℕ, ◌+◌, max, Option, Some, None, Box}
use Rattle.std.specs.declared.alloc.Global.{Global}
use Rattle.ground.specs.declared.place.Place.{Place}
use Rattle.efl_routes.specs.Expressions.{made}
use Rattle.efl_typed_tree.specs.declared.expression.TypedExpr.{TypedExpr}
use Rattle.efl_typed_tree.specs.declared.statement.TypedStmt.{TypedStmt}
use Rattle.efl_typed_tree.specs.Views.{expr_of, stmt_of}
use Rattle.efl_lowered.specs.Needs.{needs}

abbrev pub with_other : Option (Box TypedStmt Global) → ℕ → ℕ → ℕ
with_other None n m = m
with_other (Some other) n m = max m (needs (stmt_of other.value) n)

abbrev pub with_until : Option (TypedExpr × Place) → ℕ → ℕ → ℕ
with_until None n m = m
with_until (Some u) n m = max (n + made (expr_of u.0)) m
