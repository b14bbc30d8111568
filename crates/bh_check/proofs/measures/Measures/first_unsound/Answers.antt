use Rattle.std.proofs.Common.{arith}
use Rattle.bh_check.specs.Holds.{Holds}
use Rattle.bh_check.proofs.Walks.{all_more, all_at_end}
use Rattle.bh_check.proofs.measures.Measures.first_unsound.Goals as goal

pub loop-row-preserved : goal.loop-row-preserved
loop-row-preserved c d m =
    all_more (Holds d c.args.self.now.latest c.args.table) c.args.rows.now c.loop-row.row-index c.row-item.result c.loop-row-test.true c.row-item.is (c.loop-row.invariant d m) (c.in_ok-holds.ensures c.if-not-branch.false d m)

pub returns : goal.returns
returns c none d m =
    let end = c.loop-row-test.false in
    all_at_end (Holds d c.args.self.now.latest c.args.table) c.args.rows.now c.loop-row.row-index (λ low. omega (arith, low, end)) (c.loop-row.invariant d m)
