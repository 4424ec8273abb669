-- Why `label_places` keeps its clauses.
use Rattle.std.proofs.Common.{arith}
use Rattle.std.proofs.lemmas.Grind.{common_steps}
use Rattle.rule_table.proofs.WordLemmas.{place_steps}
use Rattle.f66_flow.proofs.labels.label_places.Goals as goal
use Rattle.f66_flow.proofs.labels.label_places.Goals.{in-Some+in_ok-note_number, in_default}

pub loop-i-preserved : goal.loop-i-preserved
loop-i-preserved c = λ q.
    elim c.match-statement.branch [
      | in-Some+in_ok-note_number w ↦ grind (arith, common_steps, place_steps, c.loop-i.invariant q, w.in_ok-note_number.ensures q)
      | in_default w ↦ grind (arith, common_steps, place_steps, c.loop-i.invariant q)
    ]
