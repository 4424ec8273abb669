-- A place that was found may be barred.
use Rattle.std.proofs.Common.{sym, ap, not, ◌||◌, is_none, ◌∙◌}
use Rattle.efl_initial_values.proofs.OffsetLemmas.{none_of, some_of}
use Rattle.efl_initial_values.proofs.presets.is_barred.Goals as goal

pub returns-in-None : goal.returns-in-None
returns-in-None c = λ o found. sym (ap (λ x. is_none x || not c.args.may_begin) (none_of o (sym c.in-None.is ∙ found)))

pub returns-in-Some : goal.returns-in-Some
returns-in-Some c = λ o found. sym (ap (λ x. is_none x || not c.args.may_begin) (some_of o _ (sym c.in-Some.is ∙ found)).is)
