-- One statement more.
use Rattle.std.proofs.Common.{arith}
use Rattle.std.proofs.lemmas.Grind.{common_steps}
use Rattle.rule_table.proofs.WordLemmas.{place_steps}
use Rattle.code_emit.proofs.labels.numbers_of.Goals as goal
use Rattle.code_emit.proofs.labels.numbers_of.Goals.{in-Some+in_ok-note_number, in_default}

pub loop-number-preserved : goal.loop-number-preserved
loop-number-preserved c = λ q.
    elim c.match-statement.branch [
      | in-Some+in_ok-note_number w ↦ grind (arith, common_steps, place_steps, c.loop-number.invariant q, w.in_ok-note_number.ensures q)
      | in_default w ↦ grind (arith, common_steps, place_steps, c.loop-number.invariant q)
    ]
