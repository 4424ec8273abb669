-- The laws are lemmas.
use Rattle.one_fault.proofs.BadFaults as lemmas
use Rattle.one_fault.proofs.laws.one_bad_fault.Goals as goal

pub returns-clause-one : goal.returns-clause-one
returns-clause-one c = lemmas.one_bad_fault

pub returns-clause-whole : goal.returns-clause-whole
returns-clause-whole c = lemmas.bad_is_whole
