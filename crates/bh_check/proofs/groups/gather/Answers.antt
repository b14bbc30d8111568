use Rattle.std.proofs.Common.{◌+◌, ◌≤◌, ◌++◌, length, take, sym, ap, ◌∙◌, subst}
use Rattle.bh_check.specs.Groups.{lane, lanes}
use Rattle.bh_check.proofs.LaneLemmas.{lanes_fit, lanes_more}
use Rattle.bh_check.proofs.groups.gather.Goals as goal

pub append_lane-requires : goal.append_lane-requires
append_lane-requires c =
    subst (λ l. length l + c.args.size ≤ 524288) (sym c.loop-row.invariant)
    (lanes_fit c.args.size c.args.blocks.now c.loop-row.row-index c.loop-row-test.true c.requires.eight c.requires.small)

pub loop-row-preserved : goal.loop-row-preserved
loop-row-preserved c =
    let size = c.args.size in
    let so_far = lanes size (take c.loop-row.row-index c.args.blocks.now) in
    c.in_ok-append_lane.ensures
    ∙ ap (λ l. l ++ lane size c.bytes_in.result.now) c.loop-row.invariant
    ∙ ap (λ b. so_far ++ lane size b) c.bytes_in.ensures
    ∙ lanes_more size c.args.blocks.now c.loop-row.row-index c.row-item.result c.loop-row-test.true c.row-item.is
