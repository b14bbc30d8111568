use Rattle.sqlite.specs.Held.{state}
use Rattle.bh_blocks.proofs.UseCalls.{count_told}
use Rattle.bh_base.specs.Connections.{backing}
use Rattle.bh_blocks.proofs.uses.use_rows.Goals as goal

pub returns : goal.returns
returns g c =
    let h = rw (c.to_sql.ensures, c.number.ensures) at c.query_all.ensures in
    let q = count_told (backing g.P.Shelf c.args.connection.now.packs) (state g.S.Store c.args.connection.now.database) (state g.S.Store c.query_all.new.self) c.requires.midst (c.args.digest.now, c.args.ord) (λ v. v.items) c.query_all.result h.ok h.err h.survives in
    record { reads = record { within = q.within; opens = q.opens; same = q.same }; rows = q.rows; trouble = q.trouble }
