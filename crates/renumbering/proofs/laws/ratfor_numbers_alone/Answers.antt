-- Numbers do not matter to what a program of Ratfor means.
use Rattle.renumbering.proofs.BodyLemmas as lemmas
use Rattle.renumbering.proofs.laws.ratfor_numbers_alone.Goals as goal

pub returns : goal.returns
returns c = lemmas.ratfor_numbers_alone
