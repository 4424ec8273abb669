-- Why `made_label` keeps its clauses.
use Rattle.std.proofs.Common.{rules}
use Rattle.f66_calls.proofs.made_names.made_label.Goals as goal

pub returns : goal.returns
returns c = search rules
