-- Both are told of the type.
use Rattle.std.proofs.Common.{◌||◌, ap, ◌∙◌}
use Rattle.efl_scope.specs.DataTypes.{is_large}
use Rattle.efl_initial_values.proofs.PresetLemmas.{open_is}
use Rattle.efl_initial_values.proofs.presets.is_unmeasured.Goals as goal

pub returns : goal.returns
returns c = λ f ss t is.
    c.is_either.ensures ∙ ap (λ b. b || c.has_open.result) (c.is_large.ensures f t is.told) ∙ ap (λ b. is_large t || b) (c.has_open.ensures ∙ open_is f ss t _ _ is.made)
