use Rattle.std.proofs.Common.{arith, sym, ap, subst, ◌∙◌, false}
use Rattle.std.specs.List.{list_any}
use Rattle.bh_rows.specs.Form.{typed}
use Rattle.sqlite_typed.specs.Tests.{bytes_eq}
use Rattle.bh_shelf.specs.Contents.{Contents}
use Rattle.bh_tables.specs.Rows.{pack_form, place_form}
use Rattle.bh_check.specs.Blocks.{block_octets, HasDigest}
use Rattle.bh_check.specs.Looked.{IsShownAs, AreShown}
use Rattle.bh_check.proofs.OnceLemmas.{none_more, all_got, taken_whole}
use Rattle.bh_check.proofs.ZipLemmas.{zip_got, zip_long}
use Rattle.bh_check.proofs.blocks.any_has_same.Goals as goal

pub loop-block-preserved : goal.loop-block-preserved
loop-block-preserved g c =
    let inv = c.loop-block.invariant in
    let s = c.args.stored.now in
    let reads = c.in_ok-has_same.ensures.reads in
    let at = c.loop-block.block-index in
    let row = c.args.row.now in (
      record { clean = λ clean. inv.0.clean (reads.clean clean); seen = λ clean. reads.seen clean ∙ inv.0.seen (reads.clean clean) },
      λ clean shown are digest all its.
          let mid = reads.clean clean in
          let now = subst (λ (p : Contents). AreShown p s c.args.known.now c.args.blocks.now shown) (sym (inv.0.seen mid)) are in
          let got = zip_got (IsShownAs (typed pack_form s.packs.items) (g.P.Shelf.seen c.loop-block.packs) (typed place_form s.places.items)) c.args.blocks.now shown at c.block-item.result now.each c.loop-block-test.true c.block-item.is in
          none_more (λ r. bytes_eq (block_octets r) (block_octets row)) shown at got.0 got.1 got.2 (inv.1 mid shown are digest all its)
          (c.in_ok-has_same.ensures.other c.if-branch.false clean got.0 (record { each = (got.3, tt); known_are = now.known_are; named = now.named }) digest
          (all_got (HasDigest digest) shown at got.0 got.1 got.2 all) its),
    )

pub returns-clause-others : goal.returns-clause-others
returns-clause-others g c none clean shown are digest all its =
    let end = c.loop-block-test.false in
    let s = c.args.stored.now in
    let same = zip_long (IsShownAs (typed pack_form s.packs.items) (g.P.Shelf.seen c.args.packs.now) (typed place_form s.places.items)) c.args.blocks.now shown are.each in
    sym (ap (list_any (λ r. bytes_eq (block_octets r) (block_octets c.args.row.now))) (taken_whole shown c.loop-block.block-index (omega (arith, end, same)))) ∙ c.loop-block.invariant.1 clean shown are digest all its
