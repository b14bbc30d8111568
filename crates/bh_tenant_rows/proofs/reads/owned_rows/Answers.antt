use Rattle.sqlite.specs.Held.{state}
use Rattle.bh_tenant_rows.proofs.Reading.{reads_owned}
use Rattle.bh_base.specs.Connections.{backing}
use Rattle.bh_tenant_rows.proofs.reads.owned_rows.Goals as goal

pub returns : goal.returns
returns g c =
    let h = rw c.to_sql.ensures at c.query_all.ensures in
    let q = reads_owned (backing g.P.Shelf c.args.connection.now.packs) (state g.S.Store c.args.connection.now.database) (state g.S.Store c.query_all.new.self) c.requires.inside (λ v. v.items) c.query_all.result c.args.tenant.now c.args.table _ c.text.ensures h.ok h.err h.survives in
    record { reads = record { within = q.within; opens = q.opens; same = q.same }; rows = q.rows }
