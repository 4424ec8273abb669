-- By what it is.
use Rattle.std.proofs.Common.{length, sym, ap, ◌∙◌}
use Rattle.efl_tree.specs.Views.{write_item_of}
use Rattle.efl_types.specs.Statements.{written_width}
use Rattle.efl_statements.proofs.items.written_width.Goals as goal

pub returns-in-Value : goal.returns-in-Value
returns-in-Value c = c.width.ensures ∙ sym (ap (λ i. written_width (write_item_of i)) c.in-Value.is)

pub returns-in-Chars : goal.returns-in-Chars
returns-in-Chars c = ap length c.as_bytes.ensures ∙ sym (ap (λ i. written_width (write_item_of i)) c.in-Chars.is)
