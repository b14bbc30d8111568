use Rattle.std.proofs.lemmas.Result.{on_ok_weaker}
use Rattle.bh_shelf.proofs.SoundLemmas.{sound_keeps, written_stands}
use Rattle.bh_shelf.proofs.shelved.Shelved.settle.Goals as goal

pub invariant_of-self : goal.invariant_of-self
invariant_of-self g c = let old = c.args.self.now in record { sound = sound_keeps g.D.Disk old.packs c.sync.new.self c.sync.ensures.keeps old.marks old.sound }

pub returns-clause-stands : goal.returns-clause-stands
returns-clause-stands g c =
    let old = c.args.self.now in
    on_ok_weaker c.sync.result (written_stands g.D.Disk old.packs c.sync.new.self old.marks old.sound c.sync.ensures.keeps) c.sync.ensures.kept
