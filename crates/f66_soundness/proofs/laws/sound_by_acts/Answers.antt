-- A sound unit judged without its labels never goes wrong.
use Rattle.f66_soundness.proofs.SoundLemmas as sound
use Rattle.f66_soundness.proofs.laws.sound_by_acts.Goals as goal

pub returns : goal.returns
returns c = sound.never_wrong_by_acts
