-- By what it is.
use Rattle.std.proofs.Common.{sym, ap, ◌∙◌}
use Rattle.efl_tree.specs.Views.{read_item_of}
use Rattle.efl_types.specs.Statements.{read_width}
use Rattle.efl_statements.proofs.items.read_width.Goals as goal

pub returns-in-Take : goal.returns-in-Take
returns-in-Take c = c.width.ensures ∙ sym (ap (λ i. read_width (read_item_of i)) c.in-Take.is)
