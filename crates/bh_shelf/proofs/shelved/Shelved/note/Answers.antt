use Rattle.bh_shelf.proofs.SoundLemmas.{sound_stood}
use Rattle.bh_shelf.proofs.shelved.Shelved.note.Goals as goal

pub invariant_of-self : goal.invariant_of-self
invariant_of-self g c =
    let old = c.args.self.now in record { sound = sound_stood g.D.Disk old.packs old.marks c.stand.new.self old.sound c.requires c.stand.ensures }
