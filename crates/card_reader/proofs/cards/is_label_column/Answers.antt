-- A digit is a column of a label.
use Rattle.std.proofs.Common.{rules}
use Rattle.card_reader.proofs.cards.is_label_column.Goals as goal

pub returns-then-c-ge48 : goal.returns-then-c-ge48
returns-then-c-ge48 c = search rules
