-- By the blocks, or else by the letter.
use Rattle.efl_bindings.proofs.ExpressionLemmas.{declared_is, undeclared_is}
use Rattle.efl_bindings.proofs.sites.typed_variable.Goals as goal

pub returns-in-Some : goal.returns-in-Some
returns-in-Some c = λ at is. declared_is at c.args.site.now c.args.name.now c.in-Some.scalar is c.in-Some.ensures

pub returns-in-None : goal.returns-in-None
returns-in-None c = λ at is. undeclared_is at c.args.site.now c.args.name.now c.undeclared.result is c.in-None.ensures (c.undeclared.ensures at is)
