use Rattle.std.proofs.Common.{arith, ◌+◌, if◌then◌else◌, take, refl, ◌∙◌}
use Rattle.bh_tables.specs.Bodies.{same_name}
use Rattle.bh_check.specs.Holds.{owner}
use Rattle.bh_check.specs.Sums.{total}
use Rattle.bh_check.specs.Tallies.{current_one}
use Rattle.bh_check.proofs.Walks.{total_more, total_at_end, keeps_same}
use Rattle.bh_check.proofs.tallies.objects_of.Goals as goal

pub loop-row-init : goal.loop-row-init
loop-row-init c = keeps_same (λ _. 0) _ _ (λ q. refl) c.new-objects.ensures

pub loop-row-preserved : goal.loop-row-preserved
loop-row-preserved c =
    let rows = c.args.rows.now in
    let so_far = total owner (current_one rows) (take c.loop-row.row-index rows) in
    let one = c.in_ok-more.ensures rows c.requires in
    keeps_same _ _ _
    (λ q. (λ i. so_far q + (if same_name (c.bytes_in-tenant.ensures i, 0) q then one i else 0))
    ∙ total_more owner (current_one rows) rows c.loop-row.row-index c.row-item.result c.loop-row-test.true c.row-item.is q)
    (c.in_ok-add.ensures c.if-not-branch.false so_far c.loop-row.invariant)

pub returns : goal.returns
returns c =
    let end = c.loop-row-test.false in
    keeps_same _ _ _ (total_at_end owner (current_one c.args.rows.now) c.args.rows.now c.loop-row.row-index (λ low. omega (arith, low, end))) c.loop-row.invariant
