-- A number tells where to go on.
use Rattle.runner.proofs.LeapArms.{table_tall, table_low, table_past, table_goes}
use Rattle.runner.proofs.branches.jump_table.Goals as goal

pub word_at-requires-clause-some : goal.word_at-requires-clause-some
word_at-requires-clause-some c = table_tall c.args.targets.now c.args.stack.now c.args.top c.requires.work

pub returns-in-None-clause-leaps : goal.returns-in-None-clause-leaps
returns-in-None-clause-leaps c = λ pc plans s w here st fine. table_low c.args.targets.now _ _ _ c.word_at.ensures plans s w st fine c.in-None.ensures

pub returns-in-None-target_at-clause-leaps : goal.returns-in-None-target_at-clause-leaps
returns-in-None-target_at-clause-leaps c = λ pc plans s w here st fine. table_past c.args.targets.now _ _ _ c.word_at.ensures plans s w st fine _ c.in-Some.ensures c.in-None-target_at.ensures

pub returns-in-Some-target_at-clause-leaps : goal.returns-in-Some-target_at-clause-leaps
returns-in-Some-target_at-clause-leaps c = λ pc plans s w here st fine. table_goes c.args.targets.now _ _ _ c.word_at.ensures plans s w st fine _ _ c.in-Some.ensures c.in-Some-target_at.ensures
