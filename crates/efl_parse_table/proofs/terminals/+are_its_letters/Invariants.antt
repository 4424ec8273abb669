-- The spelling gets shorter.
use Rattle.std.proofs.Common.{length}
use Rattle.efl_parse_table.proofs.terminals.+are_its_letters.Given as goal

abbrev pub decreases-are_its_letters : goal.decreases-are_its_letters
decreases-are_its_letters l = length l.spelling.now
