-- The law, of all decks that fit.
use Rattle.deck_laws.proofs.DecksAgain.{deck_again, read_again}
use Rattle.deck_laws.proofs.UnitsAgain.{places_alone}
use Rattle.deck_laws.proofs.laws.decks_are_given_again.Goals as goal

pub returns-clause-units : goal.returns-clause-units
returns-clause-units c = deck_again

pub returns-clause-places : goal.returns-clause-places
returns-clause-places c = places_alone

pub returns-clause-same : goal.returns-clause-same
returns-clause-same c = read_again
