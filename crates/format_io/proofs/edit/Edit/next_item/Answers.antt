-- The way stays as it is.
use Rattle.format_io.proofs.Ways.{next_keeps}
use Rattle.format_io.proofs.edit.Edit.next_item.Goals as goal

pub returns-clause-way : goal.returns-clause-way
returns-clause-way c = next_keeps c.next_laid.result _ _ _ _ c.next_laid.ensures
