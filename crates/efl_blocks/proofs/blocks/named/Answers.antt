-- By the blocks.
use Rattle.efl_scoped.specs.Seen.{table_of}
use Rattle.efl_blocks.proofs.WithinLemmas.{within_known}
use Rattle.efl_blocks.proofs.blocks.named.Goals as goal

pub returns : goal.returns
returns c = λ y bs is. c.structure_named.ensures (table_of y.numbers) y.structures.list.items bs (within_known y bs c.args.block.now c.args.beyond.now is)
