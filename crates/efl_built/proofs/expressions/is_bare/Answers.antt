-- No list of subscripts is empty.
use Rattle.std.proofs.Common.{◌∙◌}
use Rattle.efl_built.proofs.BuiltLemmas.{bare_if_empty}
use Rattle.efl_built.proofs.expressions.is_bare.Goals as goal

pub returns : goal.returns
returns c = c.is_empty.ensures ∙ bare_if_empty c.args.list.now
