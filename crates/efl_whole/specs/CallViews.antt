-- Calls and where a part is, in memory.
use Rattle.std.specs.Prelude.{ℕ, Option, Some, None, Box}
use Rattle.std.specs.HashMap.{get_by}
use Rattle.std.specs.Str.{bytes_eq}
use Rattle.std.specs.declared.alloc.Global.{Global}
use Rattle.ground.specs.declared.place.Place.{Place}
use Rattle.efl_tree.specs.declared.expression.EflExpr.{EflExpr}
use Rattle.efl_tree.specs.declared.statement.EflStmt.{EflStmt}
use Rattle.efl_tree.specs.Syntax.{Text}
use Rattle.efl_tree.specs.Views.{expr_of, stmt_of}
use Rattle.efl_scope.specs.Uses.{uses_of}
use Rattle.efl_whole.specs.declared.calls.Calls as calls
use Rattle.efl_whole.specs.declared.calls.Site as sites
use Rattle.efl_whole.specs.declared.numbers.Numbers.{Numbers}
use Rattle.efl_whole.specs.RoleViews.{scope_of}
use Rattle.efl_whole.specs.Calls.{Calls, Site, using_all, statement_calls}

abbrev pub numbers_of : Numbers → Text → Option ℕ
numbers_of n x = get_by (λ k. bytes_eq x k.now) n.table

abbrev pub calls_of : calls.Calls → Calls
calls_of c = record { edges = c.edges.items; places = c.places.items }

abbrev pub site_of : sites.Site → Site
site_of s = record { numbers = numbers_of s.numbers.now; unit = s.unit; roles = scope_of s.scopes.now }

abbrev pub other_calls : Site → Option (Box EflStmt Global) → Calls → Calls
other_calls s None cs = cs
other_calls s (Some other) cs = statement_calls s (stmt_of other.value) cs

abbrev pub until_calls : Site → Option (EflExpr × Place) → Calls → Calls
until_calls s None cs = cs
until_calls s (Some u) cs = using_all s u.1 (uses_of (expr_of u.0)) cs
