-- A new walk is the hand that a statement begins with.
use Rattle.format_io.proofs.Hands.{start_is}
use Rattle.format_io.proofs.edit.Edit.start.Goals as goal

pub returns-clause-hand : goal.returns-clause-hand
returns-clause-hand c = λ fs. start_is fs c.args.way _ _ _ c.clear.ensures c.clear-2.ensures
