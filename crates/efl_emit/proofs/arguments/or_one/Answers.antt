-- A list that has an argument stays as it is.
use Rattle.std.proofs.Common.{◌==◌, sym, ap, ◌∙◌}
use Rattle.efl_emit.proofs.Lists.{kept_arguments}
use Rattle.efl_emit.proofs.arguments.or_one.Goals as goal

pub returns-then-not-is_empty : goal.returns-then-not-is_empty
returns-then-not-is_empty c = kept_arguments c.args.list.items (ap (λ n. n == 0) (sym c.args.list.ok.0) ∙ sym c.is_empty.ensures ∙ c.if-not-is_empty.true)
