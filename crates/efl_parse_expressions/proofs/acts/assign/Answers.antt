-- Why `assign` keeps its clauses.
use Rattle.efl_tree.proofs.Rows.{assign_expr}
use Rattle.efl_parse_expressions.proofs.acts.assign.Goals as goal

pub returns : goal.returns
returns c = assign_expr c.args.operator c.args.place c.args.right
