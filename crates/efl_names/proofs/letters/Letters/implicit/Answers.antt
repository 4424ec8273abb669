-- By the first letter.
use Rattle.std.proofs.Common.{sym, subst}
use Rattle.efl_expressions.specs.TypeViews.{IsType}
use Rattle.efl_names.proofs.NameLemmas.{no_letter, first_letter}
use Rattle.efl_names.proofs.letters.Letters.implicit.Goals as goal

pub returns-in-None : goal.returns-in-None
returns-in-None c = λ f ss rules are.
    subst (λ t. IsType f ss t c.nothing.result) (sym (no_letter rules c.args.name.now c.in-None.ensures.value)) (c.nothing.ensures f ss)

pub returns-in-Some : goal.returns-in-Some
returns-in-Some c = λ f ss rules are.
    subst (λ t. IsType f ss t c.by_letter.result) (sym (first_letter rules c.args.name.now c.in-Some.letter.now c.in-Some.ensures.value)) (c.by_letter.ensures f ss rules are)
