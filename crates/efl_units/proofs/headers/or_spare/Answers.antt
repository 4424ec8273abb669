-- A list with a dummy stays as it is.
use Rattle.std.proofs.Common.{◌==◌, sym, ap, ◌∙◌}
use Rattle.efl_units.proofs.HeaderLemmas.{kept_dummies}
use Rattle.efl_units.proofs.headers.or_spare.Goals as goal

pub returns-then-not-is_empty : goal.returns-then-not-is_empty
returns-then-not-is_empty c = kept_dummies _ c.args.list.items (ap (λ n. n == 0) (sym c.args.list.ok.0) ∙ sym c.is_empty.ensures ∙ c.if-not-is_empty.true)
