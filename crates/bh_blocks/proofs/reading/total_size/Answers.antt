use Rattle.std.proofs.Common.{arith, ◌∙◌}
use Rattle.bh_tables.specs.Shown.{shown_ref}
use Rattle.bh_blocks.proofs.Loops.{at_row, drop_end}
use Rattle.bh_blocks.proofs.WindowSteps.{size_sum, total_next, total_starts, total_ends}
use Rattle.bh_blocks.proofs.reading.total_size.Goals as goal

pub loop-row-init : goal.loop-row-init
loop-row-init c rs is = total_starts (size_sum rs)

pub loop-row-preserved : goal.loop-row-preserved
loop-row-preserved c rs is =
    let it = at_row shown_ref rs c.args.rows.now c.loop-row.row-index c.row-item.result c.loop-row-test.true c.row-item.is is in
    total_next c.loop-row.total c.in-Some.more c.in_ok-read_ref.field-0.size c.loop-row.row-index it.0 rs (c.in_ok-read_ref.ensures.size it.0 it.1) c.in-Some.ensures.1 it.2 ∙ c.loop-row.invariant rs is

pub returns : goal.returns
returns c rs is = total_ends c.loop-row.total _ _ (drop_end shown_ref rs c.args.rows.now c.loop-row.row-index (λ low. let end = c.loop-row-test.false in omega (arith, low, end)) is) (c.loop-row.invariant rs is)
