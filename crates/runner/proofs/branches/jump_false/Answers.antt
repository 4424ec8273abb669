-- A truth value tells where to go on.
use Rattle.std.proofs.Common.{refl}
use Rattle.runner.proofs.LeapArms.{fork_tall, fork_on, fork_off}
use Rattle.runner.proofs.branches.jump_false.Goals as goal

pub word_at-requires-clause-some : goal.word_at-requires-clause-some
word_at-requires-clause-some c = fork_tall c.args.to c.args.stack.now c.args.top c.requires.work

pub returns-then-is_true-clause-leaps : goal.returns-then-is_true-clause-leaps
returns-then-is_true-clause-leaps c = λ plans s w here st fine. fork_on c.args.to _ _ _ c.word_at.ensures _ c.is_true.ensures plans s w st fine c.args.pc here c.if-is_true.true

pub returns-then-is_true-clause-way : goal.returns-then-is_true-clause-way
returns-then-is_true-clause-way c = record { index = 0; is = refl }

pub returns-else-is_true-clause-leaps : goal.returns-else-is_true-clause-leaps
returns-else-is_true-clause-leaps c = λ plans s w here st fine. fork_off c.args.to _ _ _ c.word_at.ensures _ c.is_true.ensures plans s w st fine c.if-is_true.false

pub returns-else-is_true-clause-way : goal.returns-else-is_true-clause-way
returns-else-is_true-clause-way c = record { index = 1; is = refl }
