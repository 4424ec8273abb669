-- Why `enters` keeps its clauses.
use Rattle.std.proofs.Common.{sym}
use Rattle.f66_flow.proofs.PlaceLemmas.{named_within}
use Rattle.f66_flow.proofs.rows.enters.Goals as goal

pub enters_at-requires-clause-within : goal.enters_at-requires-clause-within
enters_at-requires-clause-within c = named_within c.args.flow.now.labels.statements.now c.args.label c.in-Some.place (sym c.in-Some.ensures)
