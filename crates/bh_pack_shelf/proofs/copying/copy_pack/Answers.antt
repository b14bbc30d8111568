use Rattle.std.proofs.Common.{◌<◌, arith}
use Rattle.std.proofs.lemmas.Result.{on_ok_weaker}
use Rattle.bh_shelf.specs.Marks.{kept_of}
use Rattle.bh_shelf.specs.Ranges.{contents_of}
use Rattle.bh_pack_files.specs.contracts.file.PackFileDisk.TheImpl.{ghosts}
use Rattle.bh_pack_shelf.proofs.CopyLemmas.{part_copied}
use Rattle.bh_pack_shelf.proofs.copying.copy_pack.Goals as goal

pub returns-clause-copied : goal.returns-clause-copied
returns-clause-copied g c =
    let disk = ghosts g.row.H g.H.Held g.H.Held-dict g.H.Destruct-dict in
    let old = c.args.shelf.now in
    let new = c.open.new.self in
    let pack = c.args.pack in
    let mark = c.kept_to-mark.result in
    on_ok_weaker c.open.result
    (λ opened from to.
    let some : 0 < mark = omega (arith, c.if-mark-eq0.false) in
    let (all, has) = c.kept_to-mark.ensures.whole some in
    part_copied g.D.Disk old.packs old.marks old.sound (c.file_of_copy.ensures.stays.clean from) pack mark all has (disk.seen c.in_ok-file.file)
    (c.in_ok-file.ensures.written from all has) (contents_of disk new.packs (kept_of new.marks)) (opened to) c.kept_to-mark.ensures.ends)
    c.open.ensures.opened
