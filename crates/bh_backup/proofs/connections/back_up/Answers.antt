use Rattle.std.proofs.lemmas.Bool.{and_parts, and_from}
use Rattle.sqlite_disk.specs.declared.Disk.{Ghosts}
use Rattle.sqlite_wal.specs.Reads.{AreClean, IsClean}
use Rattle.bh_backup.proofs.Showing.{copy_holds, still_copied}
use Rattle.bh_backup.proofs.connections.back_up.Goals as goal

were_clean : {D : Type 0} (g : Ghosts D) (log old new : D) → (IsClean g new → IsClean g old) → AreClean g log new → AreClean g log old
were_clean g log old new back clean = let both = and_parts (g.is_clean log) (g.is_clean new) clean in and_from (g.is_clean log) (g.is_clean old) both.0 (back both.1)

pub returns-clause-kept : goal.returns-clause-kept
returns-clause-kept g c clean =
    let reads = c.in_ok-copy_disk.ensures.read in
    let copied = c.in-Ok.ensures.copied (were_clean g.D.Disk c.in-Ok.files.log c.in-Ok.files.db c.copy_disk.new.from reads.clean clean) in
    still_copied c.args.connection c.in-Ok.files.log c.in-Ok.files.db c.copy_disk.new.from copied reads

pub returns-clause-copied : goal.returns-clause-copied
returns-clause-copied g c clean =
    let reads = c.in_ok-copy_disk.ensures.read in
    let copied = c.in-Ok.ensures.copied (were_clean g.D.Disk c.in-Ok.files.log c.in-Ok.files.db c.copy_disk.new.from reads.clean clean) in
    let read = (and_parts (g.D.Disk.is_clean c.in-Ok.files.log) (g.D.Disk.is_clean c.copy_disk.new.from) clean).1 in
    copy_holds c.args.connection c.in-Ok.files c.copy_disk.new.to c.look.ensures copied (c.in_ok-copy_disk.ensures.copied read)
