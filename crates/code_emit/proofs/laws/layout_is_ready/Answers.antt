-- The law.
use Rattle.code_emit.proofs.ProgramLemmas.{ready}
use Rattle.code_emit.proofs.laws.layout_is_ready.Goals as goal

pub returns : goal.returns
returns c = ready
