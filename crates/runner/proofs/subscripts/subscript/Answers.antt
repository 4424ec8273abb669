-- A subscript is read.
use Rattle.runner.proofs.SubscriptArms.{is_read}
use Rattle.runner.proofs.subscripts.subscript.Goals as goal

pub returns : goal.returns
returns c = is_read c.args.unit c.args.cells.now c.cell_at.result c.shown.result c.cell_at.ensures c.shown.ensures
