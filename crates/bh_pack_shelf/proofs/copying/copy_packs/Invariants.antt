use Rattle.std.proofs.Common.{◌<◌, ℕ, length, IsTrue}
use Rattle.bh_shelf.specs.Marks.{kept_of}
use Rattle.bh_shelf.specs.Ranges.{clean_of, contents_of}
use Rattle.bh_shelf.specs.contracts.shelved.ShelvedShelf.TheImpl.{ghosts}
use Rattle.bh_pack_files.specs.contracts.file.PackFileDisk.TheImpl as file
use Rattle.bh_pack_shelf.specs.Copied.{HaveOf, Stays}
use Rattle.bh_pack_shelf.proofs.copying.copy_packs.Given as goal

-- the first packs are copied
abbrev pub invariant-loop-pack : goal.invariant-loop-pack
invariant-loop-pack g l = record {
  stays : Stays (ghosts g.row.D g.row.F g.D.Disk g.D.Disk-dict g.F.Folder g.F.Folder-dict g.D.Destruct-dict) l.fn.shelf l.shelf;
  room : 0 < length l.room;
  copied : IsTrue (clean_of g.D.Disk l.shelf.packs) → IsTrue (clean_of (file.ghosts g.row.H g.H.Held g.H.Held-dict g.H.Destruct-dict) l.copy.packs)
      → (pack : ℕ) → pack < l.pack → HaveOf pack (contents_of g.D.Disk l.fn.shelf.packs (kept_of l.fn.shelf.marks))
      (contents_of (file.ghosts g.row.H g.H.Held g.H.Held-dict g.H.Destruct-dict) l.copy.packs (kept_of l.copy.marks));
}
