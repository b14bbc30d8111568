use Rattle.std.proofs.Common.{arith}
use Rattle.bh_check.specs.Tallies.{IsTallyOf}
use Rattle.bh_check.proofs.ZipLemmas.{zip_more, zip_end}
use Rattle.bh_check.proofs.tallies.first_mistallied.Goals as goal

pub loop-at-preserved : goal.loop-at-preserved
loop-at-preserved c rows totals =
    let low = c.loop-at-test.true in
    let same = c.requires in
    zip_more (IsTallyOf rows) c.args.tallies.now c.args.tenants.now c.loop-at.at c.index-tallies-at.result c.index-tenants-at.result (omega (arith, low, same)) low c.index-tallies-at.is c.index-tenants-at.is
    (c.loop-at.invariant rows totals) (c.in_ok-is_tally_of.ensures c.if-not-branch.false rows totals)

pub returns : goal.returns
returns c none rows totals =
    let end = c.loop-at-test.false in
    let same = c.requires in
    zip_end (IsTallyOf rows) c.args.tallies.now c.args.tenants.now c.loop-at.at (λ low. omega (arith, low, end, same)) (λ low. omega (arith, low, end)) (c.loop-at.invariant rows totals)
