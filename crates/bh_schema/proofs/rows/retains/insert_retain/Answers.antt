use Rattle.std.proofs.Common.{refl}
use Rattle.sqlite.specs.Held.{state}
use Rattle.bh_tables.proofs.Places.{retains}
use Rattle.bh_tables.proofs.RetainTexts.{retain_inserted, new_retain}
use Rattle.bh_base.specs.Layer.{standing}
use Rattle.bh_base.proofs.Calls.{inserted}
use Rattle.bh_base.specs.Connections.{backing}
use Rattle.bh_base.specs.Shown.{shown}
use Rattle.bh_tables.specs.Typed.{totals_of, no_rows}
use Rattle.bh_base.proofs.Apart.{retains_apart, retain_may}
use Rattle.bh_schema.proofs.rows.retains.insert_retain.Goals as goal

pub returns : goal.returns
returns g c =
    let h = rw (c.to_sql.ensures, c.number.ensures, c.number-2.ensures) at c.write.ensures in
    let old = state g.S.Store c.args.connection.now.database in
    let a = backing g.P.Shelf c.args.connection.now.packs in
    let w = inserted retains (λ _. retains_apart) a old (state g.S.Store c.write.new.connection) c.requires.inside (λ t l. refl) c.write.result h.live (retain_inserted c.args.tenant.now c.args.seq c.args.until) (λ packs db. retain_may (totals_of no_rows) packs db _) (λ clean is. new_retain (standing (shown a old)).now (c.requires.inside clean).host _ is.free is.owned) h.runs h.survives in
    record { writes = record { within = w.within; opens = w.opens; inside = w.inside }; holds = w.holds; trouble = w.trouble }
