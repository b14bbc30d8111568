use Rattle.std.proofs.Common.{rules, ◌≡◌, ◌∙◌, ℕ, inl, inr, subst, ap, arith}
use Rattle.std.proofs.lemmas.Bool.{cases_lt}
use Rattle.bh_shelf.specs.Contents.{Contents}
use Rattle.bh_shelf.specs.Marks.{kept_of}
use Rattle.bh_shelf.specs.Ranges.{contents_of}
use Rattle.bh_shelf.specs.contracts.shelved.ShelvedShelf.TheImpl.{ghosts}
use Rattle.bh_pack_files.specs.contracts.file.PackFileDisk.TheImpl as file
use Rattle.bh_pack_shelf.specs.Copied.{HaveOf}
use Rattle.bh_pack_shelf.proofs.StayLemmas.{stays_then}
use Rattle.bh_pack_shelf.proofs.copying.copy_packs.Goals as goal

pub loop-pack-preserved : goal.loop-pack-preserved
loop-pack-preserved g c =
    let disk = file.ghosts g.row.H g.H.Held g.H.Held-dict g.H.Destruct-dict in
    let old = c.args.shelf.now in
    let mid = c.loop-pack.shelf in
    let before = c.loop-pack.invariant in
    let kept = contents_of g.D.Disk old.packs (kept_of old.marks) in
    let new = c.copy_pack.new.copy in
    let copied = contents_of disk new.packs (kept_of new.marks) in
    let here = c.loop-pack.pack in
    record {
      stays = stays_then (ghosts g.row.D g.row.F g.D.Disk g.D.Disk-dict g.F.Folder g.F.Folder-dict g.D.Destruct-dict) old mid c.copy_pack.new.shelf
          before.stays c.copy_pack.ensures.stays;
      room = search rules;
      copied = λ from to pack low offset size bytes has.
          let then = c.copy_pack.ensures.stays.clean from in
          elim (cases_lt pack here) [
            | inl earlier ↦
                c.copy_pack.ensures.others to pack (λ same. absurd (omega (arith, earlier, same))) offset size
                ∙ before.copied then (c.copy_pack.ensures.clean to) pack earlier offset size bytes has
            | inr last ↦
                let same : here ≡ pack = omega (arith, last, low) in
                let P : ℕ → Type 0 = λ n. HaveOf n kept copied in
                subst P same (λ o s found is. c.in_ok-copy_pack.ensures.copied from to o s found (ap (λ (it : Contents). it here o s) (before.stays.kept then) ∙ is))
                offset size bytes has
          ];
    }
