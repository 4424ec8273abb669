-- The law, of all units.
use Rattle.deck_laws.proofs.FittingTexts.{units_pass}
use Rattle.deck_laws.proofs.laws.fitting_texts_pass.Goals as goal

pub returns : goal.returns
returns c = units_pass
