-- The law is a lemma.
use Rattle.one_fault.proofs.LinkFaults as lemmas
use Rattle.one_fault.proofs.laws.one_link_fault.Goals as goal

pub returns : goal.returns
returns c = lemmas.one_link_fault
