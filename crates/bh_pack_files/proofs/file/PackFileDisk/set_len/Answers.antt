use Rattle.sqlite_disk.specs.Disk.{Cut}
use Rattle.sqlite_disk.specs.History.{resized}
use Rattle.sqlite_disk.specs.Events.{replay}
use Rattle.sqlite_disk.proofs.EventLemmas.{length-padded, Cut-padded}
use Rattle.bh_pack_files.proofs.Writes.{cut_same, step_follows}
use Rattle.bh_pack_files.proofs.file.PackFileDisk.set_len.Goals as goal

pub returns-in-Ok-clause-len : goal.returns-in-Ok-clause-len
returns-in-Ok-clause-len g c =
    let old = replay (g.S.Held.held c.args.self.now.pack) c.args.self.now.log.events in rw c.note.ensures (length-padded old.seen c.args.len)

pub returns-in-Ok-clause-others : goal.returns-in-Ok-clause-others
returns-in-Ok-clause-others g c =
    let old = replay (g.S.Held.held c.args.self.now.pack) c.args.self.now.log.events in rw c.note.ensures (Cut-padded old.seen c.args.len)

pub returns-in-Ok-clause-crash : goal.returns-in-Ok-clause-crash
returns-in-Ok-clause-crash g c =
    let old = replay (g.S.Held.held c.args.self.now.pack) c.args.self.now.log.events in
    let len = c.args.len in
    rw c.note.ensures (step_follows (Cut len) old.seen _ old.synced old.steps (resized len) (Cut-padded old.seen len) (λ d c' takes. takes))

pub returns-in-Err-clause-crash : goal.returns-in-Err-clause-crash
returns-in-Err-clause-crash g c =
    let old = replay (g.S.Held.held c.args.self.now.pack) c.args.self.now.log.events in
    let len = c.args.len in
    rw c.note-in-Err.ensures (step_follows (Cut len) old.seen old.seen old.synced old.steps (resized len) (cut_same len old.seen) (λ d c' takes. takes))
