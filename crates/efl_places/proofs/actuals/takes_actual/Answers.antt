-- What is no array is taken by its type.
use Rattle.std.proofs.Common.{sym, ◌∙◌}
use Rattle.efl_types.specs.Types.{type_of}
use Rattle.efl_places.proofs.TypedLemmas.{other_actual}
use Rattle.efl_places.proofs.actuals.takes_actual.Goals as goal

pub returns-in_default : goal.returns-in_default
returns-in_default c = λ f n t e apart formal actual.
    c.takes_other.ensures f c.args.structures.now.list.items t (type_of n e) apart formal.told actual.kind
    ∙ sym (other_actual n t e (λ is. c.in_default.not-Array (sym (c.form.ensures f c.args.structures.now.list.items t formal) ∙ is)))
