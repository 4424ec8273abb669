-- The law of verdicts, from those of grammars and of programs.
use Rattle.front.proofs.OneVerdict.{one_verdict}
use Rattle.front.proofs.laws.one_verdict.Goals as goal

pub returns : goal.returns
returns c = one_verdict c.answers_are_published.ensures c.answers_are_published-2.ensures c.one_first_fault.ensures c.accepted_has_none.ensures c.one_meaning.ensures
