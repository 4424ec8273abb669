-- The field of a value is that of its edit.
use Rattle.std.proofs.Common.{◌∙◌, sym, ap}
use Rattle.efl_typed_tree.specs.Views.{write_item_of}
use Rattle.efl_emit.specs.Transfers.{written_field}
use Rattle.efl_emit.proofs.transfers.written_field.Goals as goal

pub returns-in-Value : goal.returns-in-Value
returns-in-Value c = c.field_by.ensures ∙ sym (ap (λ v. written_field (write_item_of v)) c.in-Value.is)
