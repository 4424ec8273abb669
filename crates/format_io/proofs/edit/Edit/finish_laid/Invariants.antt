-- The end that is looked for is that of the statement as it stood.
use Rattle.std.proofs.Common.{◌≡◌, length}
use Rattle.f66_tree.specs.Turns.{last_turn}
use Rattle.format_io.specs.Places.{hand_of, format, ahead, visible}
use Rattle.format_io.specs.Answers.{ends}
use Rattle.format_io.proofs.edit.Edit.finish_laid.Given as goal

abbrev pub invariant-last : goal.invariant-last
invariant-last l = ends (hand_of (format l.plan) l.self) ≡ last_turn (hand_of (format l.plan) l.fn.self)

abbrev pub decreases-last : goal.decreases-last
decreases-last l = length (visible (ahead (format l.plan) l.self))
