-- The ends are those of the rows before.
use Rattle.std.proofs.Common.{◌≡◌, length}
use Rattle.storage_rules.specs.Ends.{AreEnds}
use Rattle.storage_rules.proofs.ends.ends_of.Given as goal

abbrev pub invariant-loop-row : goal.invariant-loop-row
invariant-loop-row l = record { many : length l.ends.items ≡ length l.seats; ends : AreEnds l.seats l.sizes l.row l.ends.items }
