-- The units so far stand before those of the lines that are left.
use Rattle.std.proofs.Common.{◌≡◌, length, map}
use Rattle.card_reader.specs.Told.{card_lines_of}
use Rattle.f66_tree.specs.Views.{routine_of}
use Rattle.deck_reader.specs.Units.{units_of}
use Rattle.deck_reader.specs.Steps.{units_before}
use Rattle.deck_reader.proofs.units.units_of.Given as goal

abbrev pub invariant-loop-units : goal.invariant-loop-units
invariant-loop-units l = units_of (card_lines_of l.lines) ≡ units_before (map routine_of l.units.items) (units_of (card_lines_of l.left))

abbrev pub decreases-loop-units : goal.decreases-loop-units
decreases-loop-units l = length l.left
