-- An act opens behind its first name.
use Rattle.std.proofs.Common.{rules}
use Rattle.efl_parse_table.proofs.counts.open.Goals as goal

pub returns-in-DeedOpen : goal.returns-in-DeedOpen
returns-in-DeedOpen c = search rules
