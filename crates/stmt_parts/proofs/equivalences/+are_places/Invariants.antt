-- The list gets shorter.
use Rattle.std.proofs.Common.{length}
use Rattle.stmt_parts.proofs.equivalences.+are_places.Given as goal

abbrev pub decreases-are_places : goal.decreases-are_places
decreases-are_places l = length l.list.now
