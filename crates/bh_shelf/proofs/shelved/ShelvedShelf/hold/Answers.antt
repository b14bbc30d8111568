use Rattle.bh_shelf.proofs.SoundLemmas.{sound_keeps, clean_keeps, seen_keeps, kept_keeps, stood_keeps}
use Rattle.bh_shelf.proofs.shelved.ShelvedShelf.hold.Goals as goal

pub invariant_of-self : goal.invariant_of-self
invariant_of-self g c = record { sound = sound_keeps g.D.Disk c.args.self.now.packs c.hold.new.self c.hold.ensures.keeps c.args.self.now.marks c.args.self.now.sound }

pub returns-clause-seen : goal.returns-clause-seen
returns-clause-seen g c = seen_keeps g.D.Disk c.args.self.now.packs c.hold.new.self c.hold.ensures.keeps c.args.self.now.marks c.args.self.now.sound

pub returns-clause-kept : goal.returns-clause-kept
returns-clause-kept g c = kept_keeps g.D.Disk c.args.self.now.packs c.hold.new.self c.hold.ensures.keeps c.args.self.now.marks c.args.self.now.sound

pub returns-clause-stood : goal.returns-clause-stood
returns-clause-stood g c = stood_keeps g.D.Disk c.args.self.now.packs c.hold.new.self c.hold.ensures.keeps c.args.self.now.marks c.args.self.now.sound

pub returns-clause-clean : goal.returns-clause-clean
returns-clause-clean g c = clean_keeps g.D.Disk c.args.self.now.packs c.hold.new.self c.hold.ensures.keeps c.hold.ensures.removed
