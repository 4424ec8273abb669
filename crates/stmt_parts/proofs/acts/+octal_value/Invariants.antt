-- Each digit is left behind.
use Rattle.std.proofs.Common.{length}
use Rattle.stmt_parts.proofs.acts.+octal_value.Given as goal

abbrev pub decreases-octal_value : goal.decreases-octal_value
decreases-octal_value l = length l.digits.now
