-- Why `copied_expression` keeps its clauses.
use Rattle.std.proofs.Common.{rules}
use Rattle.f66_calls.proofs.trees.copied_expression.Goals as goal

pub returns : goal.returns
returns c = search rules
