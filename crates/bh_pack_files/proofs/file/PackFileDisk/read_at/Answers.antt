use Rattle.std.proofs.Common.{◌&&◌, IsTrue}
use Rattle.std.proofs.lemmas.Bool.{and_parts}
use Rattle.sqlite_disk.specs.Events.{agrees, replay}
use Rattle.sqlite_disk.proofs.EventLemmas.{Holds-agrees}
use Rattle.bh_pack_files.proofs.file.PackFileDisk.read_at.Goals as goal

pub returns-in-Ok-clause-read : goal.returns-in-Ok-clause-read
returns-in-Ok-clause-read g c =
    let old = replay (g.S.Held.held c.args.self.now.pack) c.args.self.now.log.events in
    let got = c.read_exact_at.new.buf in
    rw c.note.ensures λ (h : IsTrue (old.is_honest && agrees old.seen c.args.at got)) some. Holds-agrees old.seen c.args.at got (and_parts _ _ h).1
