-- Without parentheses only a scalar will do.
use Rattle.std.proofs.Common.{sym, ap, not, ◌&&◌, ◌∙◌}
use Rattle.efl_types.specs.Types.{is_single}
use Rattle.efl_initial_values.proofs.presets.is_unlisted.Goals as goal

pub returns-then-listed : goal.returns-then-listed
returns-then-listed c = λ f ss t made. sym (ap (λ b. not b && not (is_single t)) c.if-listed.true)

pub returns : goal.returns
returns c = λ f ss t made. ap not (c.is_single.ensures t (c.form.ensures f ss t made)) ∙ sym (ap (λ b. not b && not (is_single t)) c.if-listed.false)
