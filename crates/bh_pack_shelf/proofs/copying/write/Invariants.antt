use Rattle.std.proofs.Common.{◌≡◌, ◌-◌, ◌<◌, ◌≤◌, ℕ, List, Some, length, IsTrue}
use Rattle.sqlite_disk.specs.Disk.{Holds}
use Rattle.bh_shelf.specs.Marks.{kept_of}
use Rattle.bh_shelf.specs.Ranges.{clean_of, contents_of, part_of}
use Rattle.bh_shelf.specs.contracts.shelved.ShelvedShelf.TheImpl.{ghosts}
use Rattle.bh_pack_shelf.specs.Copied.{Stays}
use Rattle.bh_pack_shelf.proofs.copying.write.Given as goal

-- the first bytes are written
abbrev pub invariant-loop-at : goal.invariant-loop-at
invariant-loop-at g l = record {
  stays : Stays (ghosts g.row.D g.row.F g.D.Disk g.D.Disk-dict g.F.Folder g.F.Folder-dict g.D.Destruct-dict) l.fn.shelf l.shelf;
  usable : IsTrue (g.T.Disk.is_usable l.file);
  within : l.at ≤ l.mark;
  room : 0 < length l.room;
  written : IsTrue (clean_of g.D.Disk l.shelf.packs) → (bytes : List ℕ)
      → contents_of g.D.Disk l.fn.shelf.packs (kept_of l.fn.shelf.marks) l.pack 0 l.mark ≡ Some bytes
      → Holds (g.T.Disk.seen l.file) 0 (part_of bytes 0 l.at);
}

abbrev pub decreases-loop-at : goal.decreases-loop-at
decreases-loop-at g l = l.mark - l.at
