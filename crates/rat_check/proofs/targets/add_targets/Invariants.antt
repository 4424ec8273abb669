-- The labels of those before are added.
use Rattle.std.proofs.Common.{◌≡◌, drop}
use Rattle.rat_tree.specs.Views.{commands}
use Rattle.rat_check.specs.Survey.{adding_all}
use Rattle.rat_check.proofs.targets.add_targets.Given as goal

abbrev pub invariant-loop-statement : goal.invariant-loop-statement
invariant-loop-statement l = adding_all (commands (drop l.statement-index l.list)) l.labels ≡ adding_all (commands l.list) l.initial.labels
