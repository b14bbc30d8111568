use Rattle.std.proofs.Common.{refl}
use Rattle.sqlite.specs.Held.{state}
use Rattle.bh_tables.proofs.Places.{retains}
use Rattle.bh_tables.proofs.RetainTexts.{retain_deleted, retains_unused}
use Rattle.bh_base.proofs.Calls.{deleted}
use Rattle.bh_base.specs.Connections.{backing}
use Rattle.bh_base.proofs.Apart.{retains_apart}
use Rattle.bh_schema.proofs.rows.retains.delete_retain.Goals as goal

pub returns : goal.returns
returns g c =
    let h = rw (c.to_sql.ensures, c.number.ensures) at c.write.ensures in
    let old = state g.S.Store c.args.connection.now.database in
    let a = backing g.P.Shelf c.args.connection.now.packs in
    let w = deleted retains (λ _. retains_apart) a old (state g.S.Store c.write.new.connection) c.requires.inside (λ t l. refl) c.write.result h.live (retain_deleted c.args.tenant.now c.args.seq) (λ sums db host. retains_unused db.trees) h.runs h.survives in
    record { writes = record { within = w.within; opens = w.opens; inside = w.inside }; holds = w.holds; trouble = w.trouble }
