-- The list inside an implied DO, as its code goes over it.
use Rattle.f66_tree.proofs.Rows.{many_entry}
use Rattle.rat_descent.proofs.transfers.many.Goals as goal

pub returns : goal.returns
returns c = many_entry c.args.list c.args.variable c.args.range.first c.args.range.last c.args.range.step
