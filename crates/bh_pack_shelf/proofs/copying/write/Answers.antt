use Rattle.std.proofs.Common.{rules, ◌≡◌, ◌+◌, ◌<◌, ◌≤◌, ◌∙◌, ℕ, List, Some, length, take, sym, subst, ap, arith, length-take}
use Rattle.sqlite_disk.specs.Disk.{Holds, Torn}
use Rattle.bh_shelf.specs.Contents.{Contents}
use Rattle.bh_shelf.specs.Marks.{seen_of}
use Rattle.bh_shelf.specs.Ranges.{contents_of, part_of}
use Rattle.bh_shelf.specs.contracts.shelved.ShelvedShelf.TheImpl.{ghosts}
use Rattle.bh_pack_shelf.proofs.CopyLemmas.{all_long, all_of, holds_more, part_seen}
use Rattle.bh_pack_shelf.proofs.StayLemmas.{stays_then}
use Rattle.bh_pack_shelf.proofs.copying.write.Goals as goal

pub loop-at-preserved : goal.loop-at-preserved
loop-at-preserved g c =
    let disk = g.D.Disk in
    let old = c.args.shelf.now in
    let mid = c.loop-at.shelf in
    let new = c.copy_part.new.shelf in
    let at = c.loop-at.at in
    let n = c.min-size.result in
    let pack = c.args.pack in
    let mark = c.args.mark in
    let before = c.loop-at.invariant in
    let low : at + n ≤ mark = omega (arith, before.within, c.min-size.ensures) in
    let some : 0 < n = omega (arith, before.room, c.loop-at-test.true, c.min-size.ensures) in
    let fits : length (take n c.loop-at.room) ≡ n = omega (arith, length-take n c.loop-at.room, c.min-size.ensures) in
    record {
      stays = stays_then (ghosts g.row.D g.row.F disk g.D.Disk-dict g.F.Folder g.F.Folder-dict g.D.Destruct-dict) old mid new before.stays c.copy_part.ensures.stays;
      usable = c.in_ok-copy_part.ensures.usable;
      within = low;
      room = search rules;
      written = λ clean all has.
          let then = c.copy_part.ensures.stays.clean clean in
          let first = before.stays.clean then in
          let long : length all ≡ mark = all_long disk old.packs old.marks old.sound first pack mark all has in
          let sees : contents_of disk mid.packs (seen_of mid.marks) pack at n ≡ Some (part_of all at n) =
          ap (λ (it : Contents). it pack at n) (before.stays.seen then) ∙ part_seen disk old.packs old.marks old.sound first pack mark all has at n some low in
          let P : ℕ → Type 0 = λ k. contents_of disk mid.packs (seen_of mid.marks) pack at k ≡ Some (part_of all at n) in
          let Q : ℕ → Type 0 = λ k. Torn at k (g.T.Disk.seen c.loop-at.file) (g.T.Disk.seen c.copy_part.new.file) in
          let next : Holds (g.T.Disk.seen c.copy_part.new.file) at (part_of all at n) =
          c.in_ok-copy_part.ensures.written clean (part_of all at n) (subst P (sym fits) sees) in
          holds_more (g.T.Disk.seen c.loop-at.file) (g.T.Disk.seen c.copy_part.new.file) all at n (omega (arith, low, long))
          (subst Q fits c.in_ok-copy_part.ensures.others) (before.written then all has) next;
    }

pub returns-clause-written : goal.returns-clause-written
returns-clause-written g c = λ clean all has.
    let old = c.args.shelf.now in
    let before = c.loop-at.invariant in
    let file = g.T.Disk.seen c.loop-at.file in
    let long : length all ≡ c.args.mark =
    all_long g.D.Disk old.packs old.marks old.sound (before.stays.clean clean) c.args.pack c.args.mark all has in
    let end : length all ≡ c.loop-at.at = omega (arith, long, before.within, c.loop-at-test.false) in
    let P : List ℕ → Type 0 = λ bytes. Holds file 0 bytes in subst P (all_of all c.loop-at.at end) (before.written clean all has)
