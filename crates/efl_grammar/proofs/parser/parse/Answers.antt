-- Why `parse` keeps its clauses.
use Rattle.efl_grammar.proofs.AnswersPublished.{ends, answered}
use Rattle.efl_grammar.proofs.parser.parse.Goals as goal

pub parse-requires : goal.parse-requires
parse-requires c = ends c.args.tokens.now.items c.requires

pub returns : goal.returns
returns c = answered c.args.tokens.now.items c.parse.result c.parse.ensures
