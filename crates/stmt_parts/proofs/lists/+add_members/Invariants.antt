-- Each member is left behind.
use Rattle.std.proofs.Common.{length}
use Rattle.stmt_parts.proofs.lists.+add_members.Given as goal

abbrev pub decreases-add_members : goal.decreases-add_members
decreases-add_members g l = length l.tokens.now
