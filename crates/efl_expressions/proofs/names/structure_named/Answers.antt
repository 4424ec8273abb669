-- By what the name means.
use Rattle.std.proofs.Common.{sym, subst}
use Rattle.efl_scope.specs.Scopes.{members_if, structured}
use Rattle.efl_expressions.specs.TypeViews.{IsType}
use Rattle.efl_expressions.proofs.NameLemmas.{none_known, some_known}
use Rattle.efl_expressions.proofs.names.structure_named.Goals as goal

pub returns-in-None : goal.returns-in-None
returns-in-None c = λ f ss bs known.
    let none = none_known f ss bs c.args.blocks.now c.args.name.now known c.in-None.ensures in
    subst (λ o. IsType f ss (structured (members_if o)) c.nothing.result) (sym none) (c.nothing.ensures f ss)

pub returns-in-Some : goal.returns-in-Some
returns-in-Some c = λ f ss bs known.
    let some = some_known f ss bs c.args.blocks.now c.args.name.now c.in-Some.meaning known c.in-Some.ensures in
    subst (λ o. IsType f ss (structured (members_if o)) c.as_structure.result) (sym some.is) (c.as_structure.ensures f ss some.meaning some.made)
