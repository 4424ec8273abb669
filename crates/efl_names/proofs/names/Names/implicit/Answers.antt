-- By the letters.
use Rattle.efl_names.proofs.names.Names.implicit.Goals as goal

pub returns : goal.returns
returns c = λ f n stands. c.implicit.ensures f c.args.self.now.structures.now.list.items n.implied stands.letters
