-- One item more is emitted.
use Rattle.efl_emit.proofs.Items.{next_written, last_written, items_more, items_over}
use Rattle.efl_emit.proofs.transfers.emit_items.Goals as goal

pub loop-item-preserved : goal.loop-item-preserved
loop-item-preserved c = items_more (next_written c.args.items.now c.loop-item.item-index c.item-item.result c.loop-item-test.true c.item-item.is) c.loop-item.invariant c.in_ok-next.ensures

pub returns : goal.returns
returns c = items_over (last_written c.args.items.now c.loop-item.item-index c.loop-item-test.false) c.loop-item.invariant
