use Rattle.bh_shelf.proofs.SoundLemmas.{sound_none, none_seen}
use Rattle.bh_shelf.proofs.shelved.Shelved.new.Goals as goal

pub invariant_of-result : goal.invariant_of-result
invariant_of-result g c = record { sound = sound_none g.D.Disk c.new.result c.new-2.result c.new-2.ensures }

pub returns : goal.returns
returns g c = λ pack. none_seen g.D.Disk c.new.result c.new-2.result pack (c.new-2.ensures pack)
