-- A value that is large stays so.
use Rattle.std.proofs.Common.{drop, ap, ◌∙◌}
use Rattle.stmt_reader.specs.Formats.{small}
use Rattle.stmt_formats.proofs.ItemLemmas.{stays_large}
use Rattle.stmt_formats.proofs.fields.small_value.Goals as goal

pub returns-then-value-gt-GREATEST : goal.returns-then-value-gt-GREATEST
returns-then-value-gt-GREATEST c = stays_large c.loop-c.value (drop c.loop-c.c-index c.args.digits.now) c.if-value-gt-GREATEST.true ∙ ap small c.loop-c.invariant.0
