-- The names of sound units stand for something.
use Rattle.renumbering.proofs.BodyLemmas as lemmas
use Rattle.renumbering.proofs.laws.own_are_named.Goals as goal

pub returns : goal.returns
returns c = lemmas.own_are_named
