-- What stands before is seen.
use Rattle.std.proofs.Common.{◌≡◌, drop}
use Rattle.efl_tree.specs.declared.statement.LoopKind.TheVariants.{Switch}
use Rattle.efl_tree.specs.Views.{stmts_of, cases_of}
use Rattle.efl_scope.specs.Sights.{in_loop, statements_seen, clauses_seen}
use Rattle.efl_scope.specs.AreaViews.{agreeing_of}
use Rattle.efl_scope.specs.WalkViews.{walk_of}
use Rattle.efl_scope.specs.SettingViews.{setting_of}
use Rattle.efl_scope.proofs.statements.+see.Given as goal

abbrev pub invariant-see_each-loop-statement : goal.invariant-see_each-loop-statement
invariant-see_each-loop-statement l =
    statements_seen (agreeing_of l.agreeing) (setting_of l.setting) (stmts_of (drop l.statement-index l.list)) (walk_of l.walk)
    ≡ statements_seen (agreeing_of l.agreeing) (setting_of l.setting) (stmts_of l.list) (walk_of l.initial.walk)

abbrev pub invariant-see_clauses-loop-clause : goal.invariant-see_clauses-loop-clause
invariant-see_clauses-loop-clause l =
    clauses_seen (agreeing_of l.agreeing) (in_loop Switch (setting_of l.setting)) (cases_of (drop l.clause-index l.list)) (walk_of l.walk)
    ≡ clauses_seen (agreeing_of l.agreeing) (in_loop Switch (setting_of l.setting)) (cases_of l.list) (walk_of l.initial.walk)
