-- The list of dimensions grows shorter.
use Rattle.std.proofs.Common.{length}
use Rattle.storage_assoc.proofs.sizes.+places_of.Given as goal

abbrev pub decreases-places_of : goal.decreases-places_of
decreases-places_of l = length l.sizes.now
