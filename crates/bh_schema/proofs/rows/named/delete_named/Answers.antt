use Rattle.sqlite.specs.Held.{state}
use Rattle.bh_schema.proofs.Named.{named_gone}
use Rattle.bh_base.specs.Connections.{backing}
use Rattle.bh_schema.proofs.rows.named.delete_named.Goals as goal

pub returns : goal.returns
returns g c =
    let h = rw (c.to_sql.ensures, c.to_sql-2.ensures) at c.write.ensures in
    let w = named_gone (backing g.P.Shelf c.args.connection.now.packs) (state g.S.Store c.args.connection.now.database) (state g.S.Store c.write.new.connection) c.requires.inside c.write.result h.live c.args.tenant.now c.args.name.now c.args.row _ c.text.ensures h.runs h.survives in
    record { writes = record { within = w.within; opens = w.opens; inside = w.inside }; holds = w.holds; trouble = w.trouble }
