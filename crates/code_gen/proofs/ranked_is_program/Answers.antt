-- The law.
use Rattle.code_gen.proofs.LinkedUnits.{ranked_is_program}
use Rattle.code_gen.proofs.ranked_is_program.Goals as goal

pub returns : goal.returns
returns c = ranked_is_program
