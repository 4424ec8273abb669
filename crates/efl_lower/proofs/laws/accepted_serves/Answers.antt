-- Why `accepted_serves` keeps its clause.
use Rattle.efl_lower.proofs.Legal.{legal}
use Rattle.efl_lower.proofs.Limited.{limited}
use Rattle.efl_lower.proofs.Serving.{does_the_same}
use Rattle.efl_lower.proofs.laws.accepted_serves.Goals as goal

pub returns : goal.returns
returns c = λ p accepted.
    let text = accepted.text in
    let is = text.parsed.is in
    let limits = limited c.answers_are_published.ensures c.parsed_is_small.ensures c.parsed_has_few_labels.ensures c.grammar_has_little_storage.ensures c.parsed_has_few_procedures.ensures c.grammar_is_short.ensures p text in
    let shaped = c.grammar_is_shaped.ensures text.tokens p is in
    let tree = c.grammar_is_written.ensures text.tokens p text.written is in
    record {
      legal = legal c.built_is_over_scalars.ensures c.accepted_is_ready.ensures c.naming_has_room.ensures c.names_are_apart.ensures c.accepted_is_scoped.ensures p tree shaped accepted limits;
      same = does_the_same c.built_is_over_scalars.ensures c.accepted_is_ready.ensures c.naming_has_room.ensures c.names_are_apart.ensures c.scalar_units_agree.ensures c.accepted_never_lost.ensures p accepted shaped limits.small;
    }
