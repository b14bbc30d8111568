use Rattle.std.proofs.Common.{nat_lt}
use Rattle.sqlite.specs.Held.{state}
use Rattle.bh_tables.proofs.BlockTexts.{clashes_counted}
use Rattle.bh_sweep.proofs.Totals.{passing}
use Rattle.bh_base.specs.Connections.{backing}
use Rattle.bh_sweep.proofs.rows.clash_rows.Goals as goal

pub returns : goal.returns
returns g c =
    let h = c.query_all.ensures in
    let q = passing (λ n. nat_lt 0 n.1) (backing g.P.Shelf c.args.connection.now.packs) (state g.S.Store c.args.connection.now.database) (state g.S.Store c.query_all.new.self) c.requires.inside (λ v. v.items) c.query_all.result clashes_counted h.ok h.err h.survives in
    record { within = q.within; opens = q.opens; same = q.same; rows = q.rows; trouble = q.trouble }
