-- One item more is stored.
use Rattle.efl_typed_tree.specs.Views.{read_items_of}
use Rattle.efl_emit.proofs.Items.{next_read, last_read, stores_more, stores_over}
use Rattle.efl_emit.proofs.transfers.emit_stores.Goals as goal

pub loop-item-preserved : goal.loop-item-preserved
loop-item-preserved c = stores_more (read_items_of c.args.items.now) c.args.number (next_read c.args.items.now c.loop-item.item-index _ c.loop-item-test.true) c.loop-item.invariant c.in_ok-next.ensures

pub returns : goal.returns
returns c = stores_over c.args.naming.now c.args.place (read_items_of c.args.items.now) c.args.number c.loop-item.next (last_read c.args.items.now c.loop-item.item-index c.loop-item-test.false) c.loop-item.invariant
