-- Why `switch_by` gives its statement.
use Rattle.std.proofs.Common.{None, ap}
use Rattle.rat_tree.proofs.Rows.{switch_clauses}
use Rattle.rat_parse_values.specs.Values.{command}
use Rattle.rat_descent.proofs.control.switch_by.Goals as goal

pub returns : goal.returns
returns c = ap (command c.args.place) (switch_clauses None c.args.place c.args.test c.args.list)
