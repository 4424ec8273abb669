-- The way stays as it is.
use Rattle.format_io.proofs.Ways.{last_keeps}
use Rattle.format_io.proofs.edit.Edit.finish.Goals as goal

pub returns-clause-way : goal.returns-clause-way
returns-clause-way c = last_keeps c.finish_laid.result _ _ _ c.finish_laid.ensures
