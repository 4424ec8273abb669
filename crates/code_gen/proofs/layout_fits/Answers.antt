-- The law.
use Rattle.code_gen.proofs.LaidOut.{layout_fits}
use Rattle.code_gen.proofs.layout_fits.Goals as goal

pub returns : goal.returns
returns c = layout_fits
