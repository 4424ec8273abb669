-- So far the items before are emitted.
use Rattle.std.proofs.Common.{drop}
use Rattle.efl_typed_tree.specs.Views.{write_items_of}
use Rattle.efl_emit.specs.Names.{emission_of}
use Rattle.efl_emit.proofs.Items.{ItemsSoFar}
use Rattle.efl_emit.proofs.transfers.emit_items.Given as goal

abbrev pub invariant-loop-item : goal.invariant-loop-item
invariant-loop-item l =
    ItemsSoFar l.naming l.place (write_items_of l.items) (write_items_of (drop l.item-index l.items)) l.number l.next l.list.items (emission_of l.initial.out) (emission_of l.out)
