-- Why `a_told_input_is_whole` keeps its clause.
use Rattle.eft_top.proofs.Runs.{input_is_whole}
use Rattle.eft_top.proofs.laws.a_told_input_is_whole.Goals as goal

pub returns : goal.returns
returns g c = λ input rest. input_is_whole g.S.Source.left g.S.Source.faults input rest
