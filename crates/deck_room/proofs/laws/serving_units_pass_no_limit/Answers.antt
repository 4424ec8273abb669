-- The law, of units that serve.
use Rattle.deck_room.proofs.ServingDecks.{serving_pass}
use Rattle.deck_room.proofs.laws.serving_units_pass_no_limit.Goals as goal

pub returns : goal.returns
returns c = serving_pass
