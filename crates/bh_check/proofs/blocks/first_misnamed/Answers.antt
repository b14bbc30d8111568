use Rattle.std.proofs.Common.{arith}
use Rattle.bh_check.specs.Blocks.{HasDigest}
use Rattle.bh_check.proofs.Walks.{all_more, all_at_end}
use Rattle.bh_check.proofs.blocks.first_misnamed.Goals as goal

pub loop-row-preserved : goal.loop-row-preserved
loop-row-preserved g c =
    all_more (HasDigest g.D.Digester.digest_of) c.args.blocks.now c.loop-row.row-index c.row-item.result c.loop-row-test.true c.row-item.is c.loop-row.invariant (c.has_digest.ensures c.if-not-has_digest.false)

pub returns : goal.returns
returns g c none =
    let end = c.loop-row-test.false in
    all_at_end (HasDigest g.D.Digester.digest_of) c.args.blocks.now c.loop-row.row-index (λ low. omega (arith, low, end)) c.loop-row.invariant
