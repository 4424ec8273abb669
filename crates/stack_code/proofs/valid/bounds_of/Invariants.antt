-- Those that were looked at are within the bounds.
use Rattle.stack_code.specs.Bounds.{AreWithin}
use Rattle.stack_code.proofs.valid.bounds_of.Given as goal

abbrev pub invariant-loop-known : goal.invariant-loop-known
invariant-loop-known l = AreWithin l.facts l.known-index l.stack l.dummies
