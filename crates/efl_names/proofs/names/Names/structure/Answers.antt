-- By the blocks.
use Rattle.efl_names.proofs.names.Names.structure.Goals as goal

pub returns : goal.returns
returns c = λ f n stands. c.structure_named.ensures f c.args.self.now.structures.now.list.items n.blocks stands.blocks
