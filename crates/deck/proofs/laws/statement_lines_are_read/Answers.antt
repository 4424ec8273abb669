-- The law, of all that is read.
use Rattle.deck.proofs.LinesRead.{line_read}
use Rattle.deck.proofs.laws.statement_lines_are_read.Goals as goal

pub returns : goal.returns
returns c = line_read
