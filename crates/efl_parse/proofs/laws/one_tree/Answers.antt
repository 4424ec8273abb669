-- That the law holds.
use Rattle.efl_parse.proofs.OneTreeLemmas.{each_has_one}
use Rattle.efl_parse.proofs.laws.one_tree.Goals as goal

pub returns : goal.returns
returns c = each_has_one
