use Rattle.std.proofs.Common.{arith, ◌+◌, if◌then◌else◌, ◌∙◌, sym}
use Rattle.bh_tables.specs.Bodies.{same_name}
use Rattle.bh_check.specs.Holds.{first_two}
use Rattle.bh_check.proofs.Walks.{keeps_same}
use Rattle.bh_check.proofs.PlacedLemmas.{placed_next, placed_end}
use Rattle.bh_check.proofs.placed.first_misplaced.Goals as goal

pub loop-row-init : goal.loop-row-init
loop-row-init c = (λ _. 0, c.new-counts.ensures, λ h. h)

pub loop-row-preserved : goal.loop-row-preserved
loop-row-preserved c =
    let inv = c.loop-row.invariant in
    let of = inv.0 in
    let row = c.row-item.result in (
      λ q. of q + (if same_name (first_two row) q then 1 else 0),
      keeps_same _ _ _ (λ q i. of q + (if same_name (c.bytes_in-tenant.ensures i, c.number_in-body.ensures i) q then 1 else 0)) (c.in_ok-add.ensures c.if-not-branch.false of inv.1),
      λ h. inv.2 (placed_next of c.args.rows.now c.loop-row.row-index row c.loop-row-test.true c.row-item.is
          (sym c.number_in.ensures ∙ c.if-number_in-count.false ∙ c.in_ok-count.ensures of inv.1 ∙ (λ i. of (c.bytes_in-tenant.ensures i, c.number_in-body.ensures i))) h),
    )

pub returns : goal.returns
returns c fits =
    let end = c.loop-row-test.false in
    c.loop-row.invariant.2 (placed_end c.loop-row.invariant.0 c.args.rows.now c.loop-row.row-index (λ low. omega (arith, low, end)))
