-- A unit holds something else.
use Rattle.std.proofs.Common.{subst, sym, set}
use Rattle.f66_tree.specs.World.{put_in}
use Rattle.runner.specs.Words.{Agrees, content_of}
use Rattle.runner.proofs.Cells.{agrees_put}
use Rattle.runner.proofs.places.keep.Goals as goal

pub returns : goal.returns
returns c = λ st a small. subst (λ x. Agrees (set c.args.cells.now c.args.unit x) (put_in c.args.unit (content_of c.args.cell) st)) (sym c.new.ensures) (agrees_put c.args.cells.now c.args.unit c.args.cell st c.requires a small)
