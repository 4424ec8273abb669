-- A program has at most one first fault.
use Rattle.rat_link.proofs.OneFault as lemmas
use Rattle.front.proofs.laws.one_first_fault.Goals as goal

pub returns : goal.returns
returns c = lemmas.one_first_fault
