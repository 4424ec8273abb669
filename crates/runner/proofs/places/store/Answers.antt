-- A unit is written.
use Rattle.runner.proofs.PlaceArms.{store_tall, store_told, store_there, store_works, store_traps}
use Rattle.runner.proofs.places.store.Goals as goal

pub two_at-requires-clause-some : goal.two_at-requires-clause-some
two_at-requires-clause-some c = store_tall c.args.stack.now c.args.top c.args.cells.now c.requires

pub unit_of-requires : goal.unit_of-requires
unit_of-requires c = store_told c.args.stack.now c.args.top c.args.cells.now c.requires _ _ _ c.two_at.ensures

pub keep_word-requires : goal.keep_word-requires
keep_word-requires c = store_there c.args.stack.now c.args.top c.args.cells.now c.requires _ _ _ _ c.two_at.ensures c.unit_of.ensures

pub returns-clause-works : goal.returns-clause-works
returns-clause-works c = λ plans s w st a fine. store_works _ _ _ _ c.two_at.ensures plans s w st fine c.args.cells.now _ _ a c.unit_of.ensures c.keep_word.ensures c.if-spot-eq0.false

pub returns-then-spot-eq0-clause-works : goal.returns-then-spot-eq0-clause-works
returns-then-spot-eq0-clause-works c = λ plans s w st a fine. store_traps _ _ _ _ c.two_at.ensures plans s w st fine c.if-spot-eq0.true
