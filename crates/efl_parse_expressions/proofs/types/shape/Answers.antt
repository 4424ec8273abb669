-- Why `shape` keeps its clauses.
use Rattle.efl_tree.proofs.Rows.{shape_type}
use Rattle.efl_parse_expressions.proofs.types.shape.Goals as goal

pub returns : goal.returns
returns c = shape_type c.args.name c.args.groups
