use Rattle.std.proofs.Common.{arith, ◌+◌, take, sym, subst, ◌∙◌}
use Rattle.bh_rows.specs.Form.{typed}
use Rattle.bh_shelf.specs.Contents.{Contents}
use Rattle.bh_tables.specs.Packs.{place_at}
use Rattle.bh_tables.specs.Rows.{pack_form, place_form}
use Rattle.bh_check.specs.Filled.{IsFilled, AreFilled}
use Rattle.bh_check.specs.Holds.{first_two}
use Rattle.bh_check.proofs.ZipLemmas.{zip_made, made_end}
use Rattle.bh_check.proofs.filled.fill_rows.Goals as goal

pub loop-block-preserved : goal.loop-block-preserved
loop-block-preserved g c =
    let inv = c.loop-block.invariant in
    let reads = c.in_ok-row.ensures.reads in
    let rows = typed pack_form c.args.stored.now.packs.items in
    let places = typed place_form c.args.stored.now.places.items in
    let seen = g.P.Shelf.seen c.args.packs.now in
    let block = c.block-item.result in
    let low = c.loop-block-test.true in
    let is = c.block-item.is in (
      record { clean = λ clean. inv.0.clean (reads.clean clean); seen = λ clean. reads.seen clean ∙ inv.0.seen (reads.clean clean) },
      λ clean known named.
          let one : IsFilled rows seen (place_at places (first_two block)) block c.in_ok-row.row =
          subst (λ (s : Contents). IsFilled rows s (place_at places (first_two block)) block c.in_ok-row.row) (inv.0.seen (reads.clean clean)) (c.in_ok-row.ensures.row clean known named) in
          subst (λ l. AreFilled rows seen places (take (c.loop-block.block-index + 1) c.args.blocks.now) l) (sym c.in_ok-add.ensures)
          (zip_made (λ row its. IsFilled rows seen (place_at places (first_two row)) row its) c.args.blocks.now c.loop-block.rows.items c.loop-block.block-index block c.in_ok-row.row low is (inv.1 (reads.clean clean) known named) one),
    )

pub returns : goal.returns
returns g c =
    let inv = c.loop-block.invariant in
    let end = c.loop-block-test.false in
    let rows = typed pack_form c.args.stored.now.packs.items in
    let places = typed place_form c.args.stored.now.places.items in
    let seen = g.P.Shelf.seen c.args.packs.now in
    record {
      rows = λ clean known named.
          made_end (λ row its. IsFilled rows seen (place_at places (first_two row)) row its) c.args.blocks.now c.loop-block.rows.items c.loop-block.block-index (λ low. omega (arith, low, end)) (inv.1 clean known named);
      reads = inv.0;
    }
