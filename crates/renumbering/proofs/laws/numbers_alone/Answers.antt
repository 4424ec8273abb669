-- Numbers do not matter to a run of FORTRAN.
use Rattle.renumbering.proofs.NumberLemmas as lemmas
use Rattle.renumbering.proofs.laws.numbers_alone.Goals as goal

pub returns : goal.returns
returns c = lemmas.numbers_alone
