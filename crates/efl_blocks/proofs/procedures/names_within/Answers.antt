-- Types whose numbers tell them apart.
use Rattle.efl_blocks.proofs.procedures.names_within.Goals as goal

pub returns : goal.returns
returns c = λ n are. record {
  apart = record { distinct = c.args.types.now.numbers.distinct; above = c.args.types.now.numbers.above };
  blocks = are.blocks_known;
  letters = are.rules;
  units = are.procedures;
  result = are.gives;
}
