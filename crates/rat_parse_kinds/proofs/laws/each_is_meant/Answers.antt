-- That the law holds.
use Rattle.rat_parse_kinds.proofs.Meant as meant
use Rattle.rat_parse_kinds.proofs.laws.each_is_meant.Goals as goal

pub returns : goal.returns
returns c = meant.each_is_meant
