-- All of it is the site's.
use Rattle.efl_reading.proofs.counting.sight_of.Goals as goal

pub returns-clause-sees : goal.returns-clause-sees
returns-clause-sees c = λ y us u a is. record {
  found = is.procedure.found;
  formals = is.procedure.formals;
  letters = is.procedure.letters;
  blocks_known = is.blocks;
}
