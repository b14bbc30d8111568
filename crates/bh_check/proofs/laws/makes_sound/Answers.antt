use Rattle.bh_check.proofs.Sound as sound
use Rattle.bh_check.proofs.laws.makes_sound.Goals as goal

pub returns : goal.returns
returns c = sound.makes_sound
