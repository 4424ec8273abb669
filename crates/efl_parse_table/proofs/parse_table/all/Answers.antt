-- That the clause holds.
use Rattle.std.proofs.Common.{rules}
use Rattle.efl_parse_table.proofs.parse_table.all.Goals as goal

-- src/parse_table.rt:49:1
pub returns : goal.returns
returns c = search rules
