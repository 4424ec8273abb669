-- A variable is read.
use Rattle.std.proofs.Common.{refl}
use Rattle.ground.specs.declared.value.Kind.TheVariants.{Integer}
use Rattle.runner.specs.Words.{spot_word}
use Rattle.runner.proofs.Piles.{pile_push}
use Rattle.runner.proofs.PlaceArms.{load_works, load_traps}
use Rattle.runner.proofs.places.variable.Goals as goal

pub returns-in-Ok-clause-works : goal.returns-in-Ok-clause-works
returns-in-Ok-clause-works c size = λ plans s w st a fine. load_works Integer _ _ _ (pile_push c.args.stack.now c.args.top (spot_word c.args.first size) c.requires.room) c.args.cells.now _ refl _ c.cell_at.ensures _ c.in-Ok.ensures plans s w st a fine _ _ refl c.push.ensures

pub returns-in-Err-clause-works : goal.returns-in-Err-clause-works
returns-in-Err-clause-works c size = λ plans s w st a fine. load_traps Integer _ _ _ (pile_push c.args.stack.now c.args.top (spot_word c.args.first size) c.requires.room) c.args.cells.now _ refl _ c.cell_at.ensures _ c.in-Err.ensures plans s w st a fine _ refl
