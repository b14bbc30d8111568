use Rattle.std.proofs.Common.{◌≡◌, ◌+◌, ◌<◌, if◌then◌else◌, List, length, get_or, subst, refl, ◌∙◌}
use Rattle.sqlite.specs.Order.{Row}
use Rattle.bh_rows.specs.Form.{typed}
use Rattle.bh_shelf.specs.Contents.{Contents}
use Rattle.bh_tables.specs.Bodies.{same_name}
use Rattle.bh_tables.specs.Rows.{pack_form, place_form}
use Rattle.bh_check.specs.Lost.{IsReadable}
use Rattle.bh_check.proofs.LostLemmas.{counted_none, counted_more, unless}
use Rattle.bh_check.proofs.Walks.{keeps_same}
use Rattle.bh_check.proofs.lost.damaged.Goals as goal

pub loop-block-init : goal.loop-block-init
loop-block-init g c =
    let s = c.args.stored.now in (
      record { clean = λ clean. clean; seen = λ clean. refl },
      λ clean known named. counted_none (IsReadable (typed pack_form s.packs.items) (g.P.Shelf.seen c.args.packs.now) (typed place_form s.places.items) g.D.Digester.digest_of) c.new-counts.result c.new-counts.ensures,
    )

pub loop-block-preserved : goal.loop-block-preserved
loop-block-preserved g c =
    let inv = c.loop-block.invariant in
    let s = c.args.stored.now in
    let reads = c.in_ok-is_readable.ensures.reads in
    let at = c.loop-block.block-index in
    let block = c.block-item.result in
    let value = c.deref-block-items.ensures.value in
    let low = subst (λ (l : List Row). at < length l) value c.loop-block-test.true in
    let is = subst (λ (l : List Row). block ≡ get_or l at block) value c.block-item.is in
    let amount = c.one_if-amount.result in (
      record { clean = λ clean. inv.0.clean (reads.clean clean); seen = λ clean. reads.seen clean ∙ inv.0.seen (reads.clean clean) },
      λ clean known named.
          let mid = reads.clean clean in
          counted_more (IsReadable (typed pack_form s.packs.items) (g.P.Shelf.seen c.args.packs.now) (typed place_form s.places.items) g.D.Digester.digest_of) s.blocks.items at block c.loop-block.counts c.count.new.counts amount low is (inv.1 mid known named)
          (λ none. subst (λ (seen : Contents). IsReadable (typed pack_form s.packs.items) seen (typed place_form s.places.items) g.D.Digester.digest_of block) (inv.0.seen mid)
          (c.in_ok-is_readable.ensures.readable (unless c.in_ok-is_readable.field-0 amount c.one_if-amount.ensures none) clean known named))
          (λ f k. keeps_same _ _ _ (λ q. (λ i. f q + (if same_name (c.bytes_in.ensures i, c.number_in.ensures i) q then amount else 0))) (c.in_ok-count.ensures f k)),
    )
