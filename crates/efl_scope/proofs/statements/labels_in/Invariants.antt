-- The labels before are added.
use Rattle.std.proofs.Common.{◌≡◌, drop}
use Rattle.efl_tree.specs.Views.{stmts_of}
use Rattle.efl_scope.specs.ScopeRules.{no_name}
use Rattle.efl_scope.specs.Sights.{labels_of}
use Rattle.efl_scope.specs.NameViews.{names_in}
use Rattle.efl_scope.proofs.statements.labels_in.Given as goal

abbrev pub invariant-loop-statement : goal.invariant-loop-statement
invariant-loop-statement l = labels_of (stmts_of (drop l.statement-index l.list)) (names_in l.labels) ≡ labels_of (stmts_of l.list) no_name
