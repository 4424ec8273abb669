-- The type is told by its form.
use Rattle.efl_types.specs.Types.{type_of}
use Rattle.efl_places.proofs.typed.valued.Goals as goal

pub returns : goal.returns
returns c = λ f ss n e single element is. record {
  kind = c.value_of.ensures f ss (type_of n e) single is.form;
  element = element;
  rule = is.rule;
}
