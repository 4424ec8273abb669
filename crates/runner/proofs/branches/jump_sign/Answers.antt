-- A sign tells where to go on.
use Rattle.std.proofs.Common.{refl}
use Rattle.runner.proofs.LeapArms.{sign_tall}
use Rattle.runner.proofs.branches.jump_sign.Goals as goal

pub word_at-value-requires-clause-some : goal.word_at-value-requires-clause-some
word_at-value-requires-clause-some c = sign_tall c.args.below c.args.zero c.args.above c.args.stack.now c.args.top c.requires.work

pub returns-else-value-eq0-clause-way : goal.returns-else-value-eq0-clause-way
returns-else-value-eq0-clause-way c = λ pc. record { index = 2; is = refl }
