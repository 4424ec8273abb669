-- The field of a place that is read is that of its edit.
use Rattle.std.proofs.Common.{◌∙◌, sym, ap}
use Rattle.efl_typed_tree.specs.Views.{read_item_of}
use Rattle.efl_emit.specs.Transfers.{read_field}
use Rattle.efl_emit.proofs.transfers.read_field.Goals as goal

pub returns-in-Take : goal.returns-in-Take
returns-in-Take c = c.field_by.ensures ∙ sym (ap (λ v. read_field (read_item_of v)) c.in-Take.is)
