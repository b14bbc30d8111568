use Rattle.std.proofs.Common.{arith, ap, ◌∙◌}
use Rattle.bh_check.specs.Blocks.{HasDigest}
use Rattle.bh_check.proofs.LaneLemmas.{lane_at}
use Rattle.bh_check.proofs.Walks.{all_more, all_at_end}
use Rattle.bh_check.proofs.groups.first_unlike.Goals as goal

pub loop-at-preserved : goal.loop-at-preserved
loop-at-preserved g c named =
    let blocks = c.args.blocks.now in
    let at = c.loop-at.at in
    let row = c.index-blocks-at.result in
    let low = c.loop-at-test.true in
    let is = c.index-blocks-at.is in
    all_more (HasDigest g.D.Digester.digest_of) blocks at row low is (c.loop-at.invariant named)
    (c.is_named.ensures c.if-not-is_named.false
    (named at (omega (arith, low, c.requires)) ∙ ap g.D.Digester.digest_of (lane_at c.args.size blocks at row low is)))

pub returns : goal.returns
returns g c none named =
    let end = c.loop-at-test.false in
    all_at_end (HasDigest g.D.Digester.digest_of) c.args.blocks.now c.loop-at.at (λ low. omega (arith, low, end)) (c.loop-at.invariant named)
