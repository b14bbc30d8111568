use Rattle.std.proofs.Common.{◌≤◌, arith, length, sym}
use Rattle.bh_blocks.proofs.Loops.{only_is}
use Rattle.bh_blocks.proofs.rows.only_row.Goals as goal

pub returns-in-Some-clause-only : goal.returns-in-Some-clause-only
returns-in-Some-clause-only c =
    only_is c.args.rows.now c.in-Some.row.now (sym c.in-Some.ensures.value) (let few = c.if-count-gt1.false in let most : length c.args.rows.now ≤ 1 = omega (arith, few) in most)
