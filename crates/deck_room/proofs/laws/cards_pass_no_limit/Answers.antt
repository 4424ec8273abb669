-- The laws, of all that is printed.
use Rattle.deck_room.proofs.PrintedDecks.{printed_passes, one_passes}
use Rattle.deck_room.proofs.laws.cards_pass_no_limit.Goals as goal

pub returns-clause-any : goal.returns-clause-any
returns-clause-any c = printed_passes

pub returns-clause-one : goal.returns-clause-one
returns-clause-one c = one_passes
