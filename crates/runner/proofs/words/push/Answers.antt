-- One more word.
use Rattle.runner.proofs.Piles.{pile_push}
use Rattle.runner.proofs.words.push.Goals as goal

pub returns : goal.returns
returns c = pile_push c.args.stack.now c.args.top c.args.word c.requires
