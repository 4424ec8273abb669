-- One field more is listed.
use Rattle.std.proofs.Common.{ap, ◌∙◌}
use Rattle.efl_room.proofs.Rows.{next_member}
use Rattle.efl_emit.proofs.Items.{written_fields, fields_more, written_over}
use Rattle.efl_emit.proofs.transfers.written_by.Goals as goal

pub loop-item-preserved : goal.loop-item-preserved
loop-item-preserved c =
    let next = ap written_fields (next_member c.args.items.now c.loop-item.item-index c.item-item.result c.loop-item-test.true c.item-item.is) in
    fields_more _ _ _ _ _ _ c.in_ok-push.ensures.items c.in_ok-written_field.ensures next ∙ c.loop-item.invariant

pub returns : goal.returns
returns c = written_over c.loop-item.fields.items c.args.items.now c.loop-item.item-index c.loop-item-test.false c.loop-item.invariant
