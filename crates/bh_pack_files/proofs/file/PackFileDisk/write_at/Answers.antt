use Rattle.std.proofs.Common.{length, arith, take_all}
use Rattle.sqlite_disk.specs.Disk.{Torn}
use Rattle.sqlite_disk.specs.History.{wrote}
use Rattle.sqlite_disk.specs.Events.{replay}
use Rattle.sqlite_disk.proofs.EventLemmas.{Holds-overlaid, Torn-overlaid}
use Rattle.bh_pack_files.proofs.Writes.{torn_same, step_follows}
use Rattle.bh_pack_files.proofs.file.PackFileDisk.write_at.Goals as goal

pub returns-in-Ok-clause-written : goal.returns-in-Ok-clause-written
returns-in-Ok-clause-written g c some =
    let old = replay (g.S.Held.held c.args.self.now.pack) c.args.self.now.log.events in
    rw (c.note.ensures, take_all (length c.args.bytes.now) c.args.bytes.now (omega arith)) (Holds-overlaid old.seen c.args.at c.args.bytes.now)

pub returns-in-Ok-clause-others : goal.returns-in-Ok-clause-others
returns-in-Ok-clause-others g c =
    let old = replay (g.S.Held.held c.args.self.now.pack) c.args.self.now.log.events in
    rw (c.note.ensures, take_all (length c.args.bytes.now) c.args.bytes.now (omega arith)) (Torn-overlaid old.seen c.args.at c.args.bytes.now)

pub returns-in-Ok-clause-crash : goal.returns-in-Ok-clause-crash
returns-in-Ok-clause-crash g c =
    let old = replay (g.S.Held.held c.args.self.now.pack) c.args.self.now.log.events in
    let at = c.args.at in
    let bytes = c.args.bytes.now in
    rw (c.note.ensures, take_all (length bytes) bytes (omega arith))
    (step_follows (Torn at (length bytes)) old.seen _ old.synced old.steps (wrote at (length bytes) bytes) (Torn-overlaid old.seen at bytes) (λ d c' takes. takes.0))

pub returns-in-Err-clause-crash : goal.returns-in-Err-clause-crash
returns-in-Err-clause-crash g c =
    let old = replay (g.S.Held.held c.args.self.now.pack) c.args.self.now.log.events in
    let at = c.args.at in
    let bytes = c.args.bytes.now in
    rw c.note-in-Err.ensures
    (step_follows (Torn at (length bytes)) old.seen old.seen old.synced old.steps (wrote at (length bytes) bytes) (torn_same at (length bytes) old.seen) (λ d c' takes. takes.0))
