-- That the law holds.
use Rattle.efl_grammar.proofs.Published as published
use Rattle.efl_grammar.proofs.laws.programs_are_published.Goals as goal

pub returns : goal.returns
returns c = published.programs
