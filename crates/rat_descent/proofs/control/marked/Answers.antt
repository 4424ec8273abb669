-- Why `marked` gives its statement.
use Rattle.std.proofs.Common.{ap}
use Rattle.rat_parse_values.proofs.TreeLemmas.{marked_first}
use Rattle.rat_parse_values.specs.Values.{command}
use Rattle.rat_descent.proofs.control.marked.Goals as goal

pub returns : goal.returns
returns c = ap (command c.args.place) (marked_first c.args.label c.args.place c.args.kind)
