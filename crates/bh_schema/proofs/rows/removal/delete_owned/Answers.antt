use Rattle.sqlite.specs.Held.{state}
use Rattle.bh_schema.proofs.RemovalCalls.{owned_gone}
use Rattle.bh_base.specs.Connections.{backing}
use Rattle.bh_schema.proofs.rows.removal.delete_owned.Goals as goal

pub returns : goal.returns
returns g c =
    let h = rw c.to_sql.ensures at c.write.ensures in
    let w = owned_gone (backing g.P.Shelf c.args.connection.now.packs) (state g.S.Store c.args.connection.now.database) (state g.S.Store c.write.new.connection) c.requires.midst c.write.result h.live c.args.tenant.now c.args.table _ c.text.ensures h.runs h.survives in
    record { writes = record { within = w.within; opens = w.opens; midst = w.midst }; rewrites = w.rewrites }
