-- Places and values are left behind.
use Rattle.std.proofs.Common.{length}
use Rattle.stmt_parts.proofs.equivalences.+presets.Given as goal

abbrev pub decreases-add_presets : goal.decreases-add_presets
decreases-add_presets l = length l.tokens.now

abbrev pub decreases-add_values : goal.decreases-add_values
decreases-add_values l = length l.tokens.now

abbrev pub decreases-add_parts : goal.decreases-add_parts
decreases-add_parts l = length l.behind.now
