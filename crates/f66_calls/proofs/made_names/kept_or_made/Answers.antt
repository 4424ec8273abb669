-- Why `kept_or_made` keeps its clauses.
use Rattle.std.proofs.Common.{rules}
use Rattle.f66_calls.proofs.made_names.kept_or_made.Goals as goal

pub returns : goal.returns
returns c = search rules
