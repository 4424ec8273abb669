-- No continuation may follow.
use Rattle.std.proofs.Common.{rules}
use Rattle.card_reader.proofs.reader.ended.Goals as goal

pub returns-in-Some : goal.returns-in-Some
returns-in-Some c = search rules
