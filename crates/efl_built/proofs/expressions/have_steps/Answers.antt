-- Where no step stands, the path ends.
use Rattle.std.proofs.Common.{ap, ◌∙◌}
use Rattle.std.specs.Prelude.{not}
use Rattle.efl_built.proofs.BuiltLemmas.{ends_if_empty}
use Rattle.efl_built.proofs.expressions.have_steps.Goals as goal

pub returns : goal.returns
returns c = ap not (c.is_empty.ensures ∙ ends_if_empty c.args.list.now)
