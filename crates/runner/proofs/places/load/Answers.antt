-- A unit is read.
use Rattle.std.proofs.Common.{refl}
use Rattle.stack_code.specs.Instructions as i
use Rattle.runner.proofs.PlaceArms.{spot_tall, spot_told, spot_there, load_works, load_traps}
use Rattle.runner.proofs.places.load.Goals as goal

pub word_at-spot-requires-clause-some : goal.word_at-spot-requires-clause-some
word_at-spot-requires-clause-some c = spot_tall (i.Load c.args.kind) c.args.stack.now c.args.top c.args.cells.now c.requires _ refl

pub unit_of-requires : goal.unit_of-requires
unit_of-requires c = spot_told (i.Load c.args.kind) c.args.stack.now c.args.top c.args.cells.now c.requires _ refl _ _ c.word_at-spot.ensures

pub cell_at-requires : goal.cell_at-requires
cell_at-requires c = spot_there (i.Load c.args.kind) c.args.stack.now c.args.top c.args.cells.now c.requires _ refl _ _ _ c.word_at-spot.ensures c.unit_of.ensures

pub returns-in-Ok-clause-works : goal.returns-in-Ok-clause-works
returns-in-Ok-clause-works c = λ plans s w st a fine. load_works c.args.kind _ _ _ c.word_at-spot.ensures c.args.cells.now _ c.unit_of.ensures _ c.cell_at.ensures _ c.in-Ok.ensures plans s w st a fine _ _ refl c.push.ensures

pub returns-in-Err-clause-works : goal.returns-in-Err-clause-works
returns-in-Err-clause-works c = λ plans s w st a fine. load_traps c.args.kind _ _ _ c.word_at-spot.ensures c.args.cells.now _ c.unit_of.ensures _ c.cell_at.ensures _ c.in-Err.ensures plans s w st a fine _ refl
