use Rattle.std.proofs.Common.{◌≡◌, ◌-◌, ◌<◌, ◌≤◌, length, take, IsTrue}
use Rattle.sqlite_wal.specs.Reads.{IsClean, OnlyReads}
use Rattle.bh_backup.proofs.disks.copy_bytes.Given as goal

abbrev pub invariant-loop-at : goal.invariant-loop-at
invariant-loop-at g l = record {
  read : OnlyReads g.D.Disk l.fn.from l.from;
  usable : IsTrue (g.E.Disk.is_usable l.to);
  clean : IsClean g.E.Disk l.to → IsClean g.E.Disk l.fn.to;
  within : l.at ≤ l.len;
  room : 0 < length l.piece;
  copied : IsClean g.D.Disk l.from → l.len ≤ length (g.D.Disk.seen l.fn.from) → g.E.Disk.seen l.to ≡ take l.at (g.D.Disk.seen l.fn.from);
}

abbrev pub decreases-loop-at : goal.decreases-loop-at
decreases-loop-at g l = l.len - l.at
