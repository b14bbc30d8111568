use Rattle.std.proofs.Common.{arith, ◌+◌, if◌then◌else◌, take, refl, ◌∙◌}
use Rattle.bh_tables.specs.Bodies.{same_name}
use Rattle.bh_check.specs.Holds.{bucket_name, one}
use Rattle.bh_check.specs.Sums.{total}
use Rattle.bh_check.proofs.Walks.{total_more, total_at_end, keeps_same}
use Rattle.bh_check.proofs.buckets.count_by_bucket.Goals as goal

pub loop-row-init : goal.loop-row-init
loop-row-init c = keeps_same (λ _. 0) _ _ (λ q. refl) c.new-sums.ensures

pub loop-row-preserved : goal.loop-row-preserved
loop-row-preserved c =
    let at = c.args.at in
    let so_far = total (bucket_name at) one (take c.loop-row.row-index c.args.rows.now) in
    let text = c.deref.ensures.value ∙ c.in_ok-text.ensures in
    keeps_same _ _ _
    (λ q. (λ i. so_far q + (if same_name (text i, c.own_place.ensures i) q then 1 else 0))
    ∙ total_more (bucket_name at) one c.args.rows.now c.loop-row.row-index c.row-item.result c.loop-row-test.true c.row-item.is q)
    (c.in_ok-add.ensures c.if-not-branch.false so_far c.loop-row.invariant)

pub returns : goal.returns
returns c =
    let end = c.loop-row-test.false in
    keeps_same _ _ _ (total_at_end (bucket_name c.args.at) one c.args.rows.now c.loop-row.row-index (λ low. omega (arith, low, end))) c.loop-row.invariant
