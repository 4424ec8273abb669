-- Without a rule.
use Rattle.std.proofs.Common.{[], sym, subst}
use Rattle.efl_scope.specs.Scopes.{by_letter}
use Rattle.efl_names.specs.NameViews.{IsTypeIfAny, given}
use Rattle.efl_names.proofs.NameLemmas.{letter_none}
use Rattle.efl_names.proofs.letters.Letters.by_letter.Goals as goal

pub returns-in-None : goal.returns-in-None
returns-in-None c = λ f ss rules are.
    let x = c.args.letter in
    letter_none f ss (given rules x) (by_letter [] x) c.plain.result (subst (IsTypeIfAny f ss (given rules x)) (sym c.in-None.ensures.value) (are x)) (c.plain.ensures f ss)
