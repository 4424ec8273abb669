-- A count of one is left out.
use Rattle.std.proofs.Common.{rules}
use Rattle.stmt_text.proofs.formats.push_count.Goals as goal

pub returns-then-count-eq1 : goal.returns-then-count-eq1
returns-then-count-eq1 c = search rules
