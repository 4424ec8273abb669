-- The declarations in the parts before are there.
use Rattle.std.proofs.Common.{◌≡◌, take}
use Rattle.std.specs.List.{filter}
use Rattle.f66_tree.specs.Units.{is_note}
use Rattle.f66_tree.specs.Views.{header_of, lines_of}
use Rattle.rat_check.specs.PartViews.{parts_seen}
use Rattle.rat_said.specs.Said.{said_lines}
use Rattle.rat_said.proofs.brief.declarations_in.Given as goal

abbrev pub invariant-loop-part : goal.invariant-loop-part
invariant-loop-part l = lines_of l.declarations.items ≡ filter (λ s. is_note s.act) (said_lines (header_of l.header) (parts_seen (take l.part-index l.parts)))
