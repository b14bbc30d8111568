use Rattle.std.proofs.Common.{refl, Some}
use Rattle.sqlite.specs.Held.{state}
use Rattle.bh_tables.proofs.Places.{buckets}
use Rattle.bh_tables.proofs.BucketTexts.{days_set, days_may}
use Rattle.bh_base.proofs.Calls.{updated}
use Rattle.bh_base.specs.Connections.{backing}
use Rattle.bh_base.proofs.Apart.{buckets_apart}
use Rattle.bh_schema.proofs.rows.rules.set_days.Goals as goal

pub returns : goal.returns
returns g c =
    let h = rw (c.to_sql.ensures, c.to_sql-2.ensures, c.number.ensures, c.from.ensures) at c.write.ensures in
    let old = state g.S.Store c.args.connection.now.database in
    let a = backing g.P.Shelf c.args.connection.now.packs in
    let w = updated buckets (λ _. buckets_apart) a old (state g.S.Store c.write.new.connection) c.requires.inside (λ t l. refl) c.write.result h.live (days_set c.args.tenant.now c.args.bucket.now c.args.days) (days_may c.args.tenant.now c.args.bucket.now (Some c.args.days)) h.runs h.survives in
    record { writes = record { within = w.within; opens = w.opens; inside = w.inside }; holds = w.holds; trouble = w.trouble }
