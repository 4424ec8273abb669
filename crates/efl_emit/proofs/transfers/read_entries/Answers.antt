-- One item more is listed.
use Rattle.efl_emit.proofs.Items.{next_read, last_read, reads_more, reads_over}
use Rattle.efl_emit.proofs.transfers.read_entries.Goals as goal

pub loop-item-preserved : goal.loop-item-preserved
loop-item-preserved c = reads_more (next_read c.args.items.now c.loop-item.item-index _ c.loop-item-test.true) c.loop-item.invariant c.in_ok-next.ensures

pub returns : goal.returns
returns c = reads_over (last_read c.args.items.now c.loop-item.item-index c.loop-item-test.false) c.loop-item.invariant
