-- Each piece of code makes the code longer.
use Rattle.format_io.proofs.Trees.{grown_ok}
use Rattle.format_io.proofs.layout.emit_top.Goals as goal

pub returns-clause-len : goal.returns-clause-len
returns-clause-len c = grown_ok c.emit.result _ _ _ c.emit.ensures
