-- The law.
use Rattle.code_gen.proofs.SoundUnits.{sound_is_coded}
use Rattle.code_gen.proofs.sound_is_coded.Goals as goal

pub returns : goal.returns
returns c = sound_is_coded
