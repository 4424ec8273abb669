-- Why `block` gives its statement.
use Rattle.std.proofs.Common.{None, ap}
use Rattle.rat_tree.proofs.Rows.{block_commands}
use Rattle.rat_parse_values.specs.Values.{command}
use Rattle.rat_descent.proofs.control.block.Goals as goal

pub returns : goal.returns
returns c = ap (command c.args.place) (block_commands None c.args.place c.args.list)
