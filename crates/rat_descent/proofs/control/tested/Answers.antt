-- Why `tested` gives its clause.
use Rattle.std.proofs.Common.{false}
use Rattle.rat_parse_values.proofs.TreeLemmas.{whole_clause}
use Rattle.rat_descent.proofs.control.tested.Goals as goal

pub returns : goal.returns
returns c = whole_clause c.args.tests false c.args.body c.args.place
