-- The law is a lemma of Longer.
use Rattle.f66_tree.proofs.Longer as longer
use Rattle.f66_tree.proofs.laws.runs_extend.Goals as goal

pub returns : goal.returns
returns c = longer.f66_extends
