-- The declarations among what was said before are added.
use Rattle.std.proofs.Common.{◌≡◌, ◌++◌, take, map}
use Rattle.std.specs.List.{filter}
use Rattle.f66_tree.specs.Units.{is_note}
use Rattle.f66_tree.specs.Views.{lines_of}
use Rattle.f66_names.specs.ActViews.{acts_of}
use Rattle.rat_check.specs.PartViews.{part_of}
use Rattle.rat_said.specs.Said.{said_line}
use Rattle.rat_said.proofs.brief.add_declarations.Given as goal

abbrev pub invariant-loop-saying : goal.invariant-loop-saying
invariant-loop-saying l = lines_of l.declarations.items ≡ lines_of l.initial.declarations.items ++ filter (λ s. is_note s.act) (map (said_line (part_of l.part)) (acts_of (take l.saying-index l.sayings)))
