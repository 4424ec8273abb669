-- Each call goes on behind the first byte.
use Rattle.std.proofs.Common.{length}
use Rattle.name_tables.proofs.+are_same.Given as goal

abbrev pub decreases-are_same : goal.decreases-are_same
decreases-are_same l = length l.one.now
