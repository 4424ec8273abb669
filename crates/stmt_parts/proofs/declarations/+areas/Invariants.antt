-- Each name and each list are left behind.
use Rattle.std.proofs.Common.{length}
use Rattle.stmt_parts.proofs.declarations.+areas.Given as goal

abbrev pub decreases-add_areas : goal.decreases-add_areas
decreases-add_areas l = length l.tokens.now

abbrev pub decreases-add_named : goal.decreases-add_named
decreases-add_named l = length l.tokens.now
