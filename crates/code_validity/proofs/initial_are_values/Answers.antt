-- The law.
use Rattle.code_validity.proofs.Presets.{initial_are_values}
use Rattle.code_validity.proofs.initial_are_values.Goals as goal

pub returns : goal.returns
returns c = initial_are_values
