-- Which limit the counts pass.
use Rattle.std.proofs.Common.{rules}
use Rattle.efl_parse_table.proofs.counts.passed.Goals as goal

pub returns-then-counts-gt-DEEPEST : goal.returns-then-counts-gt-DEEPEST
returns-then-counts-gt-DEEPEST c = search rules

pub returns-then-counts-gt-MOST_PROCEDURES : goal.returns-then-counts-gt-MOST_PROCEDURES
returns-then-counts-gt-MOST_PROCEDURES c = search rules

pub returns-then-counts-gt-MOST_TOKENS : goal.returns-then-counts-gt-MOST_TOKENS
returns-then-counts-gt-MOST_TOKENS c = search rules

pub returns-then-counts-gt-MOST_NODES : goal.returns-then-counts-gt-MOST_NODES
returns-then-counts-gt-MOST_NODES c = search rules

pub returns-else-counts-gt-MOST_NODES : goal.returns-else-counts-gt-MOST_NODES
returns-else-counts-gt-MOST_NODES c = search rules
