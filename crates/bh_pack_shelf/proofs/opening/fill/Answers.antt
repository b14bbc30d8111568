use Rattle.std.proofs.Common.{◌≡◌, ℕ, ◌+◌, ◌<◌, ◌++◌, List, [], ◌∷◌, length, drop, sym, subst, ◌∙◌, ap, arith}
use Rattle.std.proofs.lemmas.List.{drop_more, length_push}
use Rattle.bh_shelf.specs.Marks.{kept_of}
use Rattle.bh_shelf.specs.Ranges.{contents_of}
use Rattle.bh_pack_files.specs.contracts.file.PackFileDisk.TheImpl.{ghosts}
use Rattle.bh_pack_shelf.specs.Opened.{AreOpened}
use Rattle.bh_pack_shelf.specs.Rows.{no_row, row_at}
use Rattle.bh_shelf.specs.declared.closed.Listed.{Listed}
use Rattle.bh_pack_shelf.proofs.FileLemmas.{files_less}
use Rattle.bh_pack_shelf.proofs.opening.fill.Goals as goal

pub loop-file-preserved : goal.loop-file-preserved
loop-file-preserved g c =
    let disk = ghosts g.row.S g.S.Held g.S.Held-dict g.S.Destruct-dict in
    let held = g.S.Held.held in
    let all = c.loop-file.files.items in
    let left = c.pop.new.self.items in
    let rows = c.args.listed.now in
    let n = length left in
    let before = c.loop-file.invariant in
    let is : all ≡ left ++ c.in-Some.file ∷ [] = c.in-Some.ensures.items in
    let count : length all ≡ n + 1 = ap length is ∙ length_push left c.in-Some.file in
    let low : n < length rows = omega (arith, count, before.0) in (
      omega (arith, low),
      files_less (length all) left all rows c.in-Some.file before.1 is,
      λ clean.
          let old = c.loop-file.shelf in
          let new = c.put.new.shelf in
          let P : List Listed → Type 0 = λ l. AreOpened held l (contents_of disk old.packs (kept_of old.marks)) in
          let Q : List Listed → Type 0 = λ l. AreOpened held l (contents_of disk new.packs (kept_of new.marks)) in
          let R : ℕ → Type 0 = λ k. AreOpened held (row_at rows k ∷ drop (n + 1) rows) (contents_of disk new.packs (kept_of new.marks)) in
          let at : c.len.result ≡ n = omega (arith, c.len.ensures, c.pop.new.self.ok.0) in
          let one : AreOpened held (drop (n + 1) rows) (contents_of disk old.packs (kept_of old.marks)) =
          subst P (ap (λ k. drop k rows) count) (before.2 (c.put.ensures.clean clean)) in
          subst Q (sym (drop_more rows n no_row low)) (subst R at (c.in_ok-put.ensures.opened clean (drop (n + 1) rows) one)),
    )
