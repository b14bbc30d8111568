use Rattle.std.proofs.Common.{◌≤◌, length, drop, IsTrue, vec_len}
use Rattle.bh_shelf.specs.Marks.{kept_of}
use Rattle.bh_shelf.specs.Ranges.{clean_of, contents_of}
use Rattle.bh_pack_files.specs.contracts.file.PackFileDisk.TheImpl.{ghosts}
use Rattle.bh_pack_shelf.specs.Opened.{AreFilesTo, AreOpened}
use Rattle.bh_pack_shelf.proofs.opening.fill.Given as goal

-- the files of the first rows are left, and the packs of the others are opened
abbrev pub invariant-loop-file : goal.invariant-loop-file
invariant-loop-file g l =
    let disk = ghosts g.row.S g.S.Held g.S.Held-dict g.S.Destruct-dict in
    let left = length l.files.items in
    (left ≤ length l.listed) × AreFilesTo left l.files.items l.listed
    × (IsTrue (clean_of disk l.shelf.packs)
    → AreOpened g.S.Held.held (drop left l.listed) (contents_of disk l.shelf.packs (kept_of l.shelf.marks)))

abbrev pub decreases-loop-file : goal.decreases-loop-file
decreases-loop-file g l = vec_len l.files
