-- The list inside a group, as its code goes over it.
use Rattle.f66_tree.proofs.Rows.{group_fields}
use Rattle.rat_descent.proofs.formats.group.Goals as goal

pub returns : goal.returns
returns c = group_fields c.args.count c.args.list
