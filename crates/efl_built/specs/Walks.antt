-- Where a form that is not built stands first, as a walk over a tree finds it: the groups of declarations, headers and clauses are
-- passed by.
use Rattle.std.specs.Prelude.{Bool, Box, List, [], ◌∷◌, Option, Some, None, if◌then◌else◌}
use Rattle.std.specs.Option.{option_or}
use Rattle.std.specs.declared.alloc.Global.{Global}
use Rattle.ground.specs.declared.place.Place.{Place}
use Rattle.efl_tree.specs.declared.expression.EflExpr.{EflExpr}
use Rattle.efl_tree.specs.declared.statement.EflStmt.{EflStmt}
use Rattle.efl_tree.specs.Syntax.{EflDecl, Statement, EflKind, Block, If, IfElse, While, For, Repeat, RepeatUntil, Do, Switch, EflStmts, NoStmt, AndStmt, EflCases, NoCase, AndCase, EflProcedure}
use Rattle.efl_tree.specs.Syntax as efl
use Rattle.efl_tree.specs.Views.{expr_of, stmt_of}
use Rattle.efl_built.specs.Unbuilt.{unbuilt_declaration, unbuilt_expr, unbuilt_by}

abbrev pub place_if : Bool → Place → Option Place
place_if b p = if b then Some p else None

abbrev pub first_declared : List EflDecl → Option Place
first_declared [] = None
first_declared (d ∷ ds) = option_or (place_if (unbuilt_declaration d.kind) d.place) (first_declared ds)

abbrev mutual
  -- of a statement with all that it holds
  pub first_stated : efl.EflStmt → Option Place
  first_stated (Statement ls p k) = option_or (place_if (unbuilt_by k) p) (first_within k)

  pub first_within : EflKind → Option Place
  first_within (Block ds ss) = option_or (first_declared ds) (first_listed ss)
  first_within (If e s) = first_stated s
  first_within (IfElse e s t) = option_or (first_stated s) (first_stated t)
  first_within (While e s) = first_stated s
  first_within (For b e c s) = first_stated s
  first_within (Repeat s) = first_stated s
  first_within (RepeatUntil s e p) = option_or (first_stated s) (place_if (unbuilt_expr e) p)
  first_within (Do x b c d s) = first_stated s
  first_within (Switch e cs) = first_chosen cs
  first_within _ = None

  pub first_listed : EflStmts → Option Place
  first_listed NoStmt = None
  first_listed (AndStmt s ss) = option_or (first_stated s) (first_listed ss)

  pub first_chosen : EflCases → Option Place
  first_chosen NoCase = None
  first_chosen (AndCase es fallback ss p cs) = option_or (first_listed ss) (first_chosen cs)

abbrev pub first_in_procedure : EflProcedure → Option Place
first_in_procedure u = option_or (first_declared u.declarations) (first_listed u.body)

abbrev pub first_in_procedures : List EflProcedure → Option Place
first_in_procedures [] = None
first_in_procedures (u ∷ us) = option_or (first_in_procedure u) (first_in_procedures us)

-- ---- what stands in memory behind `else` and `until` ----

abbrev pub first_other : Option (Box EflStmt Global) → Option Place
first_other None = None
first_other (Some other) = first_stated (stmt_of other.value)

abbrev pub first_until : Option (EflExpr × Place) → Option Place
first_until None = None
first_until (Some u) = place_if (unbuilt_expr (expr_of u.0)) u.1
