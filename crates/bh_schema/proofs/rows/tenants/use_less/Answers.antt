use Rattle.sqlite.specs.Held.{state}
use Rattle.bh_tables.proofs.UsedTexts.{used_taken}
use Rattle.bh_schema.proofs.UsedCalls.{fewer_used}
use Rattle.bh_base.specs.Connections.{backing}
use Rattle.bh_schema.proofs.rows.tenants.use_less.Goals as goal

pub returns : goal.returns
returns g c =
    let h = rw (c.to_sql.ensures, c.number.ensures) at c.write.ensures in
    let old = state g.S.Store c.args.connection.now.database in
    let a = backing g.P.Shelf c.args.connection.now.packs in
    let w = fewer_used a old (state g.S.Store c.write.new.connection) c.requires.midst c.write.result h.live c.args.tenant.now c.args.less (used_taken c.args.tenant.now c.args.less c.requires.less) h.runs h.survives in
    record { writes = record { within = w.within; opens = w.opens; midst = w.midst }; rewrites = w.rewrites }
