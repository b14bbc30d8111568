use Rattle.std.proofs.Common.{length}
use Rattle.std.proofs.lemmas.Result.{on_ok_weaker}
use Rattle.bh_shelf.specs.Laws.{clean_at}
use Rattle.bh_shelf.proofs.SoundLemmas.{sound_keeps, clean_keeps, seen_keeps, kept_keeps, stood_keeps, seen_written}
use Rattle.bh_shelf.proofs.shelved.Shelved.peek.Goals as goal

pub invariant_of-self : goal.invariant_of-self
invariant_of-self g c = record { sound = sound_keeps g.D.Disk c.args.self.now.packs c.peek.new.self c.peek.ensures.keeps c.args.self.now.marks c.args.self.now.sound }

pub returns-clause-bytes : goal.returns-clause-bytes
returns-clause-bytes g c =
    let old = c.args.self.now in
    on_ok_weaker c.peek.result (λ read clean bytes there.
    let here = clean_at g.D.Disk c.peek.new.self clean c.args.pack in
    let is = seen_written g.D.Disk old.packs old.marks old.sound
    (record { pack = c.args.pack; offset = c.args.at; size = length c.args.room.now; sum = 0 }) bytes
    ((c.peek.ensures.keeps c.args.pack).clean here) there in
    read here bytes is.0 is.1) c.peek.ensures.bytes

pub returns-clause-seen : goal.returns-clause-seen
returns-clause-seen g c = seen_keeps g.D.Disk c.args.self.now.packs c.peek.new.self c.peek.ensures.keeps c.args.self.now.marks c.args.self.now.sound

pub returns-clause-kept : goal.returns-clause-kept
returns-clause-kept g c = kept_keeps g.D.Disk c.args.self.now.packs c.peek.new.self c.peek.ensures.keeps c.args.self.now.marks c.args.self.now.sound

pub returns-clause-stood : goal.returns-clause-stood
returns-clause-stood g c = stood_keeps g.D.Disk c.args.self.now.packs c.peek.new.self c.peek.ensures.keeps c.args.self.now.marks c.args.self.now.sound

pub returns-clause-clean : goal.returns-clause-clean
returns-clause-clean g c = clean_keeps g.D.Disk c.args.self.now.packs c.peek.new.self c.peek.ensures.keeps c.peek.ensures.removed
