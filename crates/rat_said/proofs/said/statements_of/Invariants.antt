-- The lines of the parts before are there.
use Rattle.std.proofs.Common.{◌≡◌, take}
use Rattle.f66_tree.specs.Views.{header_of, lines_of}
use Rattle.rat_check.specs.PartViews.{parts_seen}
use Rattle.rat_said.specs.Said.{said_lines}
use Rattle.rat_said.proofs.said.statements_of.Given as goal

abbrev pub invariant-loop-part : goal.invariant-loop-part
invariant-loop-part l = lines_of l.statements.items ≡ said_lines (header_of l.header) (parts_seen (take l.part-index l.parts))
