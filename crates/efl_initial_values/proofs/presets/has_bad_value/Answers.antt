-- A zero count, or a value that misfits.
use Rattle.std.proofs.Common.{sym, ap, ◌||◌, ◌∙◌}
use Rattle.efl_types.specs.Presets.{misfit, kinds_from}
use Rattle.efl_initial_values.proofs.presets.has_bad_value.Goals as goal

pub returns-then-has_zero : goal.returns-then-has_zero
returns-then-has_zero c = λ f t p o one two found. sym (ap (λ b. b || misfit (kinds_from o t p) c.args.values.now) (sym c.has_zero.ensures ∙ c.if-has_zero.true))

pub returns : goal.returns
returns c = λ f t p o one two found.
    c.misfits_from.ensures f t p o one two found ∙ sym (ap (λ b. b || misfit (kinds_from o t p) c.args.values.now) (sym c.has_zero.ensures ∙ c.if-has_zero.false))
