-- That the law holds.
use Rattle.efl_grammar.proofs.AnswersPublished as published
use Rattle.efl_grammar.proofs.laws.answers_are_published.Goals as goal

pub returns : goal.returns
returns c = published.are_published
