-- The law, of all formats.
use Rattle.deck_laws.proofs.WholeFormats.{format_whole}
use Rattle.deck_laws.proofs.laws.formats_are_whole.Goals as goal

pub returns : goal.returns
returns c = format_whole
