-- By what the name means.
use Rattle.std.proofs.Common.{sym, subst}
use Rattle.efl_types.specs.Signatures.{applied_by}
use Rattle.efl_expressions.specs.declared.names.Applied.TheVariants.{Calls}
use Rattle.efl_expressions.specs.NameViews.{IsApplied}
use Rattle.efl_expressions.proofs.NameLemmas.{none_known, some_known}
use Rattle.efl_expressions.proofs.names.before_parentheses.Goals as goal

pub returns-in-None : goal.returns-in-None
returns-in-None c = λ f ss bs known.
    let none = none_known f ss bs c.args.blocks.now c.args.name.now known c.in-None.ensures in
    subst (λ o. IsApplied f ss (applied_by o) (Calls c.nothing.result)) (sym none) (c.nothing.ensures f ss)

pub returns-in-Some : goal.returns-in-Some
returns-in-Some c = λ f ss bs known.
    let some = some_known f ss bs c.args.blocks.now c.args.name.now c.in-Some.meaning known c.in-Some.ensures in
    subst (λ o. IsApplied f ss (applied_by o) c.meaning_applied.result) (sym some.is) (c.meaning_applied.ensures f ss some.meaning some.made)
