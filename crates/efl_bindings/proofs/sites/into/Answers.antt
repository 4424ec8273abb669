-- The place alone is another.
use Rattle.std.proofs.Common.{refl, sym}
use Rattle.efl_bindings.proofs.SiteLemmas.{around_scalars}
use Rattle.efl_bindings.proofs.sites.into.Goals as goal

pub returns : goal.returns
returns c = λ at is. record {
  unit = is.unit;
  blocks = refl;
  place = sym (c.place_at.ensures at.around.position is.place);
  variables = is.variables;
  scalars = around_scalars at c.args.site.now is;
  letters = is.letters;
  procedures = is.procedures;
}
