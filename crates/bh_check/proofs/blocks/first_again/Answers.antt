use Rattle.std.proofs.Common.{arith, ◌+◌, if◌then◌else◌, take, refl, ◌∙◌, sym, subst}
use Rattle.sqlite_exec.proofs.AgreeLemmas.{zip-take}
use Rattle.bh_rows.specs.Form.{typed}
use Rattle.bh_shelf.specs.Contents.{Contents}
use Rattle.bh_tables.specs.Bodies.{same_name}
use Rattle.bh_tables.specs.Rows.{pack_form, place_form}
use Rattle.bh_check.specs.Blocks.{HasDigest, AreOnce}
use Rattle.bh_check.specs.Holds.{owner, one}
use Rattle.bh_check.specs.Looked.{IsShownAs, AreShown}
use Rattle.bh_check.specs.Sums.{total}
use Rattle.bh_check.proofs.OnceLemmas.{once_more, all_taken, all_got, taken_whole}
use Rattle.bh_check.proofs.Walks.{total_more, keeps_same}
use Rattle.bh_check.proofs.ZipLemmas.{zip_got, zip_long}
use Rattle.bh_check.proofs.blocks.first_again.Goals as goal

pub loop-at-init : goal.loop-at-init
loop-at-init g c = record {
  reads = record { clean = λ clean. clean; seen = λ clean. refl };
  counted = keeps_same (λ _. 0) _ _ (λ q. refl) c.new-digests.ensures;
  once = λ clean shown are digest all k. omega arith;
}

pub loop-at-preserved : goal.loop-at-preserved
loop-at-preserved g c =
    let inv = c.loop-at.invariant in
    let s = c.args.stored.now in
    let blocks = c.args.blocks.now in
    let at = c.loop-at.at in
    let row = c.index-blocks-at.result in
    let low = c.loop-at-test.true in
    let is = c.index-blocks-at.is in
    let so_far = total owner one (take at blocks) in
    let count = c.in_ok-same.ensures so_far inv.counted ∙ (λ i. so_far (c.bytes_in-digest.ensures i, 0)) in
    let reads = c.in_ok-is_new.ensures.reads in
    record {
      reads = record { clean = λ clean. inv.reads.clean (reads.clean clean); seen = λ clean. reads.seen clean ∙ inv.reads.seen (reads.clean clean) };
      counted = keeps_same _ _ _
          (λ q. (λ i. so_far q + (if same_name (c.bytes_in-digest.ensures i, 0) q then 1 else 0)) ∙ total_more owner one blocks at row low is q)
          (c.in_ok-add.ensures c.if-not-branch-2.false so_far inv.counted);
      once = λ clean shown are digest all.
          let mid = reads.clean clean in
          let now = subst (λ (p : Contents). AreShown p s c.args.known.now blocks shown) (sym (inv.reads.seen mid)) are in
          let shows = IsShownAs (typed pack_form s.packs.items) (g.P.Shelf.seen c.loop-at.packs) (typed place_form s.places.items) in
          let got = zip_got shows blocks shown at row now.each low is in
          once_more shown at got.0 got.1 got.2 (inv.once mid shown are digest all)
          (c.in_ok-is_new.ensures.new c.if-not-branch.false clean (take at shown) got.0
          (record { each = zip-take shows at blocks shown now.each; known_are = now.known_are; named = now.named })
          (record { each = (got.3, tt); known_are = now.known_are; named = now.named })
          digest (all_taken (HasDigest digest) shown at all) (all_got (HasDigest digest) shown at got.0 got.1 got.2 all) count);
    }

pub returns-clause-once : goal.returns-clause-once
returns-clause-once g c none clean shown are digest all =
    let end = c.loop-at-test.false in
    let s = c.args.stored.now in
    let same = zip_long (IsShownAs (typed pack_form s.packs.items) (g.P.Shelf.seen c.args.packs.now) (typed place_form s.places.items)) c.args.blocks.now shown are.each in
    subst AreOnce (taken_whole shown c.loop-at.at (omega (arith, end, same))) (c.loop-at.invariant.once clean shown are digest all)
