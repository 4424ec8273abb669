-- So far the items before are listed.
use Rattle.std.proofs.Common.{drop}
use Rattle.efl_typed_tree.specs.Views.{read_items_of}
use Rattle.efl_emit.proofs.Items.{ReadsSoFar}
use Rattle.efl_emit.proofs.transfers.read_entries.Given as goal

abbrev pub invariant-loop-item : goal.invariant-loop-item
invariant-loop-item l =
    ReadsSoFar (read_items_of l.items) (read_items_of (drop l.item-index l.items)) l.number l.next l.list.items
