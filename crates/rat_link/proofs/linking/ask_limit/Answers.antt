-- The limit, or that there are few storage units, is what was found.
use Rattle.rat_link.proofs.linking.ask_limit.Goals as goal

pub returns-in-Some-clause-refused : goal.returns-in-Some-clause-refused
returns-in-Some-clause-refused c = λ finish. rw c.in-Some.is at (c.in_ok-fault.ensures finish)

pub returns-in-None-clause-few : goal.returns-in-None-clause-few
returns-in-None-clause-few c = λ finish. rw c.in-None.is at (c.in_ok-fault.ensures finish)
