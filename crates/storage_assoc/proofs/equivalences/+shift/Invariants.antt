-- The measure of the steps over subscripts.
use Rattle.std.proofs.Common.{length}
use Rattle.storage_assoc.proofs.equivalences.+shift.Given as goal

abbrev pub decreases-shift : goal.decreases-shift
decreases-shift l = length l.sizes.now
