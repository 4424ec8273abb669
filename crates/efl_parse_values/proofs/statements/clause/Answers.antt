-- A clause, before whatever follows it.
use Rattle.efl_tree.proofs.Rows.{clause_is}
use Rattle.efl_parse_values.proofs.statements.clause.Goals as goal

pub returns : goal.returns
returns c = clause_is c.args.tests c.args.fallback c.args.body c.args.place
