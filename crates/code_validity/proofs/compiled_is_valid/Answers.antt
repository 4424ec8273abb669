-- The law.
use Rattle.code_validity.proofs.Programs.{compiled_is_valid}
use Rattle.code_validity.proofs.compiled_is_valid.Goals as goal

pub returns : goal.returns
returns c = compiled_is_valid
