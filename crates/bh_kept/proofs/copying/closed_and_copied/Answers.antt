use Rattle.std.proofs.Common.{IsTrue, sym, subst}
use Rattle.std.proofs.lemmas.Bool.{and_parts}
use Rattle.sqlite.specs.Files.{file_state}
use Rattle.sqlite_wal.specs.Reads.{AreClean}
use Rattle.bh_backup.specs.Copies.{IsFileOf}
use Rattle.bh_backup.proofs.Showing.{copy_holds}
use Rattle.bh_kept.proofs.Held.{if_some}
use Rattle.bh_kept.proofs.Again.{were_clean, held_still}
use Rattle.bh_kept.proofs.copying.closed_and_copied.Goals as goal

pub returns-in-Ok-clause-usable : goal.returns-in-Ok-clause-usable
returns-in-Ok-clause-usable g c =
    let read = c.copy_of-copy.ensures in
    (subst (λ l. IsTrue (g.D.Disk.is_usable l)) (sym read.log) c.in-Ok.ensures.usable.0, read.read.usable)

pub returns-in-Ok-clause-held : goal.returns-in-Ok-clause-held
returns-in-Ok-clause-held g c clean =
    let read = c.copy_of-copy.ensures in
    held_still c.args.connection c.in-Ok.files c.copy_of-copy.new.files read.log read.read (c.in-Ok.ensures.copied (were_clean c.args.connection c.in-Ok.files c.copy_of-copy.new.files read.log read.read clean))

pub returns-in-Ok-clause-copied : goal.returns-in-Ok-clause-copied
returns-in-Ok-clause-copied g c =
    let read = c.copy_of-copy.ensures in
    let now = c.copy_of-copy.new.files in
    if_some {Q = λ copy. AreClean g.D.Disk now.log now.db → IsFileOf _ (file_state c.args.connection).committed copy.file} c.copy_of-copy.result
    (λ copy made clean.
    copy_holds c.args.connection c.in-Ok.files copy.file c.look.ensures (c.in-Ok.ensures.copied (were_clean c.args.connection c.in-Ok.files now read.log read.read clean))
    (made (and_parts (g.D.Disk.is_clean now.log) (g.D.Disk.is_clean now.db) clean).1))
    read.copied
