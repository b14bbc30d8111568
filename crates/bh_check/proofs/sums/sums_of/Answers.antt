use Rattle.std.proofs.Common.{arith, ◌+◌}
use Rattle.bh_check.specs.Sums.{total, name_in, amount_in}
use Rattle.bh_check.proofs.Walks.{keeps_same}
use Rattle.bh_check.proofs.sums.sums_of.Goals as goal

pub returns : goal.returns
returns c =
    let all = total (name_in c.args.by) (amount_in c.args.by) c.args.rows.now in
    keeps_same (λ q. 0 + all q) all _ (λ q. omega arith) (c.in_ok-add_rows.ensures (λ _. 0) c.new-sums.ensures)
