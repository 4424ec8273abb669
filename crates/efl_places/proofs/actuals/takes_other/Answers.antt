-- A whole array is taken where the formal has a fault, and else what agrees.
use Rattle.std.proofs.Common.{sym, ◌∙◌}
use Rattle.efl_places.proofs.TypedLemmas.{array_other, other_agrees}
use Rattle.efl_places.proofs.actuals.takes_other.Goals as goal

pub returns-in-Array : goal.returns-in-Array
returns-in-Array c = λ f ss t u apart told is. c.is_faulty.ensures f t told ∙ sym (array_other t u (c.in-Array.ensures f ss u is))

pub returns-in_default : goal.returns-in_default
returns-in_default c = λ f ss t u apart told is.
    c.agrees.ensures f t u apart told is.told ∙ sym (other_agrees t u (λ e. c.in_default.not-Array (sym (c.form.ensures f ss u is) ∙ e)))
