-- An integer in the place of a word behind which nothing is.
use Rattle.std.proofs.Common.{rules}
use Rattle.runner.proofs.Piles.{pile_number}
use Rattle.runner.proofs.values.put_number.Goals as goal

pub returns : goal.returns
returns c = pile_number c.args.stack.now c.args.at _ c.args.number c.requires.within (search rules) c.requires.same
