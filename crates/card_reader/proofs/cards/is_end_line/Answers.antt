-- What stands behind six blank columns decides.
use Rattle.std.proofs.Common.{arith}
use Rattle.std.proofs.lemmas.Grind.{common_steps}
use Rattle.card_reader.proofs.cards.is_end_line.Goals as goal

pub returns-then-are_blank : goal.returns-then-are_blank
returns-then-are_blank c = grind (arith, common_steps)
