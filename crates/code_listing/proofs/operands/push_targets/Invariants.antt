-- What is there, with the targets that are left, is all of it.
use Rattle.std.proofs.Common.{◌≡◌, ◌++◌, map, drop, decimal}
use Rattle.code_listing.specs.Listing.{spaced}
use Rattle.code_listing.proofs.operands.push_targets.Given as goal

abbrev pub invariant-loop-to : goal.invariant-loop-to
invariant-loop-to l = l.out.items ++ spaced (map decimal (drop l.to-index l.targets)) ≡ l.fn.out.items ++ spaced (map decimal l.targets)
