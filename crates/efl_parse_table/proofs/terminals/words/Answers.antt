-- That the reserved words are those of the definition.
use Rattle.std.proofs.Common.{rules}
use Rattle.efl_parse_table.proofs.terminals.words.Goals as goal

pub returns : goal.returns
returns c = search rules
