-- The law, of texts and of lines.
use Rattle.deck_laws.proofs.HeadersRead.{header_read, header_answered}
use Rattle.deck_laws.proofs.laws.headers_are_answered.Goals as goal

pub returns-clause-text : goal.returns-clause-text
returns-clause-text c = header_read

pub returns-clause-line : goal.returns-clause-line
returns-clause-line c = header_answered
