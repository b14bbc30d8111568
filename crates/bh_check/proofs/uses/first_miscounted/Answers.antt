use Rattle.std.proofs.Common.{arith}
use Rattle.bh_check.specs.Blocks.{IsUseOf}
use Rattle.bh_check.proofs.ZipLemmas.{zip_more, zip_end}
use Rattle.bh_check.proofs.uses.first_miscounted.Goals as goal

pub loop-at-preserved : goal.loop-at-preserved
loop-at-preserved c of keeps =
    let low = c.loop-at-test.true in
    let same = c.requires in
    zip_more (IsUseOf of) c.args.uses.now c.args.blocks.now c.loop-at.at c.index-uses-at.result c.index-blocks-at.result (omega (arith, low, same)) low c.index-uses-at.is c.index-blocks-at.is
    (c.loop-at.invariant of keeps) (c.in_ok-is_use_of.ensures c.if-not-branch.false of keeps)

pub returns : goal.returns
returns c none of keeps =
    let end = c.loop-at-test.false in
    let same = c.requires in
    zip_end (IsUseOf of) c.args.uses.now c.args.blocks.now c.loop-at.at (λ low. omega (arith, low, end, same)) (λ low. omega (arith, low, end)) (c.loop-at.invariant of keeps)
