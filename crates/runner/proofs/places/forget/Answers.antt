-- A unit is made undefined.
use Rattle.std.proofs.Common.{refl}
use Rattle.stack_code.specs.Instructions as i
use Rattle.runner.proofs.PlaceArms.{spot_tall, spot_told, spot_there, forget_works, forget_traps}
use Rattle.runner.proofs.places.forget.Goals as goal

pub word_at-spot-requires-clause-some : goal.word_at-spot-requires-clause-some
word_at-spot-requires-clause-some c = spot_tall i.Forget c.args.stack.now c.args.top c.args.cells.now c.requires _ refl

pub unit_of-requires : goal.unit_of-requires
unit_of-requires c = spot_told i.Forget c.args.stack.now c.args.top c.args.cells.now c.requires _ refl _ _ c.word_at-spot.ensures

pub keep-requires : goal.keep-requires
keep-requires c = spot_there i.Forget c.args.stack.now c.args.top c.args.cells.now c.requires _ refl _ _ _ c.word_at-spot.ensures c.unit_of.ensures

pub returns-clause-works : goal.returns-clause-works
returns-clause-works c = λ plans s w st a fine. forget_works _ _ _ c.word_at-spot.ensures plans s w st fine c.args.cells.now _ _ a c.unit_of.ensures c.keep.ensures c.if-spot-eq0.false

pub returns-then-spot-eq0-clause-works : goal.returns-then-spot-eq0-clause-works
returns-then-spot-eq0-clause-works c = λ plans s w st a fine. forget_traps _ _ _ c.word_at-spot.ensures plans s w st fine c.if-spot-eq0.true
