-- Why `program_of` keeps its clauses.
use Rattle.front.proofs.Ending.{ends}
use Rattle.front.proofs.FitPrograms.{program_fits}
use Rattle.front.proofs.efl.program_of.Goals as goal

pub parse-requires : goal.parse-requires
parse-requires c = ends c.args.tokens.items c.requires.ends

pub made_of-requires-clause-fit : goal.made_of-requires-clause-fit
made_of-requires-clause-fit c = program_fits c.in_ok-program.ensures.is

pub made_of-requires-clause-text : goal.made_of-requires-clause-text
made_of-requires-clause-text c = record { tokens = c.args.tokens.items; written = c.requires.written; few = c.requires.few; parsed = c.in_ok-program.ensures }
