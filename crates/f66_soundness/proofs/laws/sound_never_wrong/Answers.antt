-- A sound main unit never goes wrong.
use Rattle.f66_soundness.proofs.SoundLemmas as sound
use Rattle.f66_soundness.proofs.laws.sound_never_wrong.Goals as goal

pub returns : goal.returns
returns c = sound.never_wrong
