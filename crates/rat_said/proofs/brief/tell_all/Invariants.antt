-- What was said before is told.
use Rattle.std.proofs.Common.{◌++◌, List, map, take}
use Rattle.f66_tree.specs.Syntax.{Line}
use Rattle.f66_names.specs.ActViews.{acts_of}
use Rattle.f66_mentions.specs.UnitViews.{context_in}
use Rattle.rat_check.specs.PartViews.{part_of}
use Rattle.rat_said.specs.Said.{said_line}
use Rattle.rat_said.specs.Seen.{Tells}
use Rattle.rat_said.proofs.brief.tell_all.Given as goal

abbrev pub invariant-loop-saying : goal.invariant-loop-saying
invariant-loop-saying l = (said : List Line) → Tells (context_in l.names) said l.initial.teller → Tells (context_in l.names) (said ++ map (said_line (part_of l.part)) (acts_of (take l.saying-index l.sayings))) l.teller
