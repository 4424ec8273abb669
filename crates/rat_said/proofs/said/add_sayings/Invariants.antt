-- What was said before is added.
use Rattle.std.proofs.Common.{◌≡◌, ◌++◌, take, map}
use Rattle.f66_tree.specs.Views.{lines_of}
use Rattle.f66_names.specs.ActViews.{acts_of}
use Rattle.rat_check.specs.PartViews.{part_of}
use Rattle.rat_said.specs.Said.{said_line}
use Rattle.rat_said.proofs.said.add_sayings.Given as goal

abbrev pub invariant-loop-saying : goal.invariant-loop-saying
invariant-loop-saying l = lines_of l.statements.items ≡ lines_of l.initial.statements.items ++ map (said_line (part_of l.part)) (acts_of (take l.saying-index l.sayings))
