-- The list gets shorter.
use Rattle.std.proofs.Common.{length}
use Rattle.stmt_parts.proofs.declarations.+pars_in.Given as goal

abbrev pub decreases-pars_in : goal.decreases-pars_in
decreases-pars_in l = length l.list.now
