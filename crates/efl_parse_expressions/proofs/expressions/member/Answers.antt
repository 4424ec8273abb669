-- Why `member` keeps its clauses.
use Rattle.efl_tree.proofs.Rows.{member_step}
use Rattle.efl_parse_expressions.proofs.expressions.member.Goals as goal

pub returns : goal.returns
returns c = λ rest. member_step c.args.name c.args.subscripts rest
