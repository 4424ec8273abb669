-- The statements so far stand before what the lines that are left say.
use Rattle.std.proofs.Common.{◌≡◌, ◌≤◌, length}
use Rattle.card_reader.specs.Told.{card_lines_of}
use Rattle.f66_tree.specs.Views.{lines_of}
use Rattle.deck_reader.specs.Units.{rest_of}
use Rattle.deck_reader.specs.Steps.{lines_before}
use Rattle.deck_reader.proofs.units.read_statements.Given as goal

abbrev pub invariant-loop-line : goal.invariant-loop-line
invariant-loop-line l = (length l.left ≤ length l.lines) × (rest_of (card_lines_of l.lines) ≡ lines_before (lines_of l.statements.items) (rest_of (card_lines_of l.left)))

abbrev pub decreases-loop-line : goal.decreases-loop-line
decreases-loop-line l = length l.left
