use Rattle.std.proofs.Common.{refl}
use Rattle.sqlite.specs.Held.{state}
use Rattle.bh_tables.proofs.Places.{retains}
use Rattle.bh_tables.proofs.RetainTexts.{until_set, until_may}
use Rattle.bh_base.proofs.Calls.{updated}
use Rattle.bh_base.specs.Connections.{backing}
use Rattle.bh_base.proofs.Apart.{retains_apart}
use Rattle.bh_schema.proofs.rows.retains.set_until.Goals as goal

pub returns : goal.returns
returns g c =
    let h = rw (c.to_sql.ensures, c.number.ensures, c.number-2.ensures) at c.write.ensures in
    let old = state g.S.Store c.args.connection.now.database in
    let a = backing g.P.Shelf c.args.connection.now.packs in
    let w = updated retains (λ _. retains_apart) a old (state g.S.Store c.write.new.connection) c.requires.inside (λ t l. refl) c.write.result h.live (until_set c.args.tenant.now c.args.seq c.args.until) (until_may c.args.tenant.now c.args.seq c.args.until) h.runs h.survives in
    record { writes = record { within = w.within; opens = w.opens; inside = w.inside }; holds = w.holds; trouble = w.trouble }
