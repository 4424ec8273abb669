-- So far the items before are stored.
use Rattle.std.proofs.Common.{drop}
use Rattle.routes.specs.Code.{Behind}
use Rattle.efl_typed_tree.specs.Views.{read_items_of}
use Rattle.efl_emit.specs.Names.{emission_of, made_of}
use Rattle.efl_emit.specs.Transfers.{stores_of}
use Rattle.efl_emit.proofs.Emitting.{SoFar}
use Rattle.efl_emit.proofs.transfers.emit_stores.Given as goal

abbrev pub invariant-loop-item : goal.invariant-loop-item
invariant-loop-item l =
    (ls : Behind) → SoFar (made_of l.naming) (stores_of l.naming l.place (read_items_of l.items) l.number) (stores_of l.naming l.place (read_items_of (drop l.item-index l.items)) l.next) ls (emission_of l.initial.out) (emission_of l.out)
