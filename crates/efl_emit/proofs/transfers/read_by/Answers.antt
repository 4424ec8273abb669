-- One field more is listed.
use Rattle.std.proofs.Common.{ap, ◌∙◌}
use Rattle.efl_room.proofs.Rows.{next_copied}
use Rattle.efl_emit.proofs.Items.{read_fields, fields_more, read_over}
use Rattle.efl_emit.proofs.transfers.read_by.Goals as goal

pub loop-item-preserved : goal.loop-item-preserved
loop-item-preserved c =
    let next = ap read_fields (next_copied c.args.items.now c.loop-item.item-index _ c.loop-item-test.true) in
    fields_more _ _ _ _ _ _ c.in_ok-push.ensures.items c.read_field.ensures next ∙ c.loop-item.invariant

pub returns : goal.returns
returns c = read_over c.loop-item.fields.items c.args.items.now c.loop-item.item-index c.loop-item-test.false c.loop-item.invariant
