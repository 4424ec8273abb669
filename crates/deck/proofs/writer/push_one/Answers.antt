-- Why the cards are those of the statement, with its label.
use Rattle.std.proofs.Common.{rules}
use Rattle.deck.proofs.writer.push_one.Goals as goal

pub returns-clause-written : goal.returns-clause-written
returns-clause-written c = search rules
