-- Why `call` keeps its clauses.
use Rattle.efl_tree.proofs.Rows.{call_expr}
use Rattle.efl_parse_expressions.proofs.acts.call.Goals as goal

pub returns : goal.returns
returns c = call_expr c.args.name c.args.arguments
