-- Typed trees of expressions where their names mean these scalars.
use Rattle.std.specs.Prelude.{◌≡◌, false, List, Option, option_map}
use Rattle.efl_tree.specs.Syntax.{EflExpr, EflExprs}
use Rattle.efl_built.specs.Unbuilt.{unbuilt_expr, unbuilt_exprs, unbuilt_if_any}
use Rattle.efl_typed.specs.Typing.{Context, expr_of, exprs_of, action_of}
use Rattle.efl_typed_tree.specs.declared.expression.TypedExpr.{TypedExpr}
use Rattle.efl_typed_tree.specs.declared.statement.TypedAction.{TypedAction}
use Rattle.efl_typed_tree.specs.Views as views
use Rattle.efl_bindings.specs.declared.sites.Site.{Site}
use Rattle.efl_bindings.specs.Sites.{IsSite}

abbrev pub IsTyped : Site → EflExpr → TypedExpr → Type 0
IsTyped s e t = (c : Context) → IsSite c s → unbuilt_expr e ≡ false → views.expr_of t ≡ expr_of c e

abbrev pub AreTyped : Site → EflExprs → List TypedExpr → Type 0
AreTyped s es ts = (c : Context) → IsSite c s → unbuilt_exprs es ≡ false → views.exprs_of ts ≡ exprs_of c es

abbrev pub IsTypedIfAny : Site → Option EflExpr → Option TypedExpr → Type 0
IsTypedIfAny s e t = (c : Context) → IsSite c s → unbuilt_if_any e ≡ false → option_map views.expr_of t ≡ option_map (expr_of c) e

abbrev pub IsAction : Site → EflExpr → TypedAction → Type 0
IsAction s e t = (c : Context) → IsSite c s → unbuilt_expr e ≡ false → views.action_of t ≡ action_of c e

abbrev pub IsActionIfAny : Site → Option EflExpr → Option TypedAction → Type 0
IsActionIfAny s e t = (c : Context) → IsSite c s → unbuilt_if_any e ≡ false → option_map views.action_of t ≡ option_map (action_of c) e
