-- Each function by itself.
use Rattle.std.proofs.Common.{sym, subst}
use Rattle.runner.specs.Words.{IsMade}
use Rattle.runner.specs.Arguments.{few_of}
use Rattle.runner.proofs.KnownArms.{few_last}
use Rattle.runner.proofs.intrinsics.few.Goals as goal

pub returns-then-function-eq1 : goal.returns-then-function-eq1
returns-then-function-eq1 c = subst (λ f. IsMade (few_of f c.args.x.value c.args.y.value) c.remainder.result) (sym c.if-function-eq1.true) c.remainder.ensures

pub returns-else-function-eq2 : goal.returns-else-function-eq2
returns-else-function-eq2 c = subst (λ t. IsMade t c.excess.result) (sym (few_last c.args.function c.args.x.value c.args.y.value c.requires.few c.if-function-eq0.false c.if-function-eq1.false c.if-function-eq2.false)) c.excess.ensures
