use Rattle.std.proofs.Common.{arith, take, subst}
use Rattle.bh_check.specs.Tallies.{IsNewest}
use Rattle.bh_check.proofs.NewestLemmas.{none_less, take_more, take_all}
use Rattle.bh_check.proofs.tallies.newest_of.Goals as goal

pub loop-row-init : goal.loop-row-init
loop-row-init c = (λ _. 0, c.new-newest.ensures, λ q n. none_less n)

pub loop-row-preserved : goal.loop-row-preserved
loop-row-preserved c =
    let i = c.loop-row.row-index in
    subst (λ l. IsNewest l c.raise.new.newest) (take_more c.args.rows.now i c.row-item.result c.loop-row-test.true c.row-item.is)
    (c.in_ok-raise.ensures c.if-not-branch.false (take i c.args.rows.now) c.loop-row.invariant)

pub returns : goal.returns
returns c =
    let end = c.loop-row-test.false in
    subst (λ l. IsNewest l c.loop-row.newest) (take_all c.args.rows.now c.loop-row.row-index (λ low. omega (arith, low, end))) c.loop-row.invariant
