-- By what the name means.
use Rattle.std.proofs.Common.{sym, subst}
use Rattle.efl_types.specs.Signatures.{type_by}
use Rattle.efl_expressions.specs.TypeViews.{IsType}
use Rattle.efl_expressions.proofs.NameLemmas.{none_known, some_known}
use Rattle.efl_expressions.proofs.names.variable_type.Goals as goal

pub returns-in-None : goal.returns-in-None
returns-in-None c = λ f ss bs t known made.
    let none = none_known f ss bs c.args.blocks.now c.args.name.now known c.in-None.ensures in
    subst (λ o. IsType f ss (type_by t o) c.args.implicit.now) (sym none) made

pub returns-in-Some : goal.returns-in-Some
returns-in-Some c = λ f ss bs t known made.
    let some = some_known f ss bs c.args.blocks.now c.args.name.now c.in-Some.meaning known c.in-Some.ensures in
    subst (λ o. IsType f ss (type_by t o) c.as_variable.result) (sym some.is) (c.as_variable.ensures f ss some.meaning t some.made)
