-- What the parts before say is told.
use Rattle.std.proofs.Common.{take}
use Rattle.f66_tree.specs.Views.{header_of}
use Rattle.f66_mentions.specs.UnitViews.{context_in}
use Rattle.rat_check.specs.PartViews.{parts_seen}
use Rattle.rat_said.specs.Said.{said_lines}
use Rattle.rat_said.specs.Seen.{Tells}
use Rattle.rat_said.proofs.brief.told_by.Given as goal

abbrev pub invariant-loop-part : goal.invariant-loop-part
invariant-loop-part l = Tells (context_in l.names) (said_lines (header_of l.header) (parts_seen (take l.part-index l.parts))) l.teller
