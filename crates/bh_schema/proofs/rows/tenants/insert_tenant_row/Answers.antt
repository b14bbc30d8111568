use Rattle.sqlite.specs.Held.{state}
use Rattle.bh_tables.proofs.UsedTexts.{tenant_inserted}
use Rattle.bh_tables.proofs.TenantTexts.{new_tenant}
use Rattle.bh_base.specs.Layer.{standing}
use Rattle.bh_schema.proofs.UsedCalls.{tenant_added, tenant_was_new}
use Rattle.bh_base.specs.Connections.{backing}
use Rattle.bh_base.specs.Shown.{shown}
use Rattle.bh_base.proofs.Apart.{stored_tenant_may}
use Rattle.bh_schema.proofs.rows.tenants.insert_tenant_row.Goals as goal

pub returns : goal.returns
returns g c =
    let h = rw (c.to_sql.ensures, c.number.ensures) at c.write.ensures in
    let old = state g.S.Store c.args.connection.now.database in
    let a = backing g.P.Shelf c.args.connection.now.packs in
    let new = state g.S.Store c.write.new.connection in
    let it = tenant_inserted c.args.name.now c.args.quota in
    let w = tenant_added a old new c.requires.inside c.write.result h.live c.args.name.now c.args.quota it (λ packs db. stored_tenant_may packs db _) (λ clean is. new_tenant _ (standing (shown a old)).now (c.requires.inside clean).host _ is.free) h.runs h.survives in
    record {
      writes = record { within = w.within; opens = w.opens; midst = w.midst };
      enters = w.enters;
      free = tenant_was_new a old new c.requires.inside c.write.result h.live c.args.name.now c.args.quota it w.within.follows.clean h.runs h.survives;
      trouble = w.trouble;
    }
