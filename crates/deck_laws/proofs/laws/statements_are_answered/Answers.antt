-- The law, of texts and of lines.
use Rattle.deck_laws.proofs.AnsweredLines.{act_answered, line_answered}
use Rattle.deck_laws.proofs.laws.statements_are_answered.Goals as goal

pub returns-clause-text : goal.returns-clause-text
returns-clause-text c = act_answered

pub returns-clause-line : goal.returns-clause-line
returns-clause-line c = line_answered
