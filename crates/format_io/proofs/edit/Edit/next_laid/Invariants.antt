-- The turn that is looked for is that of the statement as it stood.
use Rattle.std.proofs.Common.{◌≡◌, length}
use Rattle.f66_tree.specs.Turns.{next_turn}
use Rattle.format_io.specs.Places.{hand_of, format, ahead, visible}
use Rattle.format_io.specs.Answers.{seeks}
use Rattle.format_io.proofs.edit.Edit.next_laid.Given as goal

abbrev pub invariant-item : goal.invariant-item
invariant-item l = seeks (hand_of (format l.plan) l.self) l.kind ≡ next_turn (hand_of (format l.plan) l.fn.self) l.kind

abbrev pub decreases-item : goal.decreases-item
decreases-item l = length (visible (ahead (format l.plan) l.self))
