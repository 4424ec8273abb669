-- By the first letter.
use Rattle.std.proofs.Common.{◌∙◌}
use Rattle.efl_bindings.proofs.LetterLemmas.{no_letter, first_letter}
use Rattle.efl_bindings.proofs.letters.Letters.kind.Goals as goal

pub returns-in-None : goal.returns-in-None
returns-in-None c = no_letter c.args.self.now c.args.name.now c.in-None.ensures.value

pub returns-in-Some : goal.returns-in-Some
returns-in-Some c = c.letter.ensures ∙ first_letter c.args.self.now c.args.name.now c.in-Some.letter.now c.in-Some.ensures.value
