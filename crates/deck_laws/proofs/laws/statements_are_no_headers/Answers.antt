-- The law, of texts and of lines.
use Rattle.deck_laws.proofs.AnsweredLines.{no_header, line_no_header}
use Rattle.deck_laws.proofs.laws.statements_are_no_headers.Goals as goal

pub returns-clause-text : goal.returns-clause-text
returns-clause-text c = no_header

pub returns-clause-line : goal.returns-clause-line
returns-clause-line c = line_no_header
