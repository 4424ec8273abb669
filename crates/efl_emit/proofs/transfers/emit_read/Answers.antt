-- The unit, READ with its format, and the stores.
use Rattle.std.proofs.lemmas.Result.{on_ok_weaker}
use Rattle.efl_typed_tree.specs.Views.{read_items_of}
use Rattle.efl_emit.proofs.Items.{read_done}
use Rattle.efl_emit.proofs.transfers.emit_read.Goals as goal

pub returns : goal.returns
returns c =
    on_ok_weaker c.emit_stores.result
    (λ h. read_done (read_items_of c.args.items.now) c.in_ok-unit.ensures c.in_ok-label.ensures c.in_ok-list.ensures c.in_ok-put_read.ensures c.in_ok-fields.ensures c.in_ok-put_labelled.ensures h) c.emit_stores.ensures
