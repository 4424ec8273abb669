-- Where numbers fall along each edge there is no cycle.
use Rattle.call_cycles.proofs.FallLemmas.{no_cycle}
use Rattle.call_cycles.proofs.cycles.first_on_cycle.Goals as goal

pub returns-then-fall : goal.returns-then-fall
returns-then-fall c = no_cycle c.deref.result.now c.args.edges.now c.if-fall.ensures
