-- The counts that are asked for are the runner's.
use Rattle.std.proofs.Common.{rules}
use Rattle.eft_top.proofs.answer.counts_of.Goals as goal

pub returns-then-count : goal.returns-then-count
returns-then-count c = search rules
