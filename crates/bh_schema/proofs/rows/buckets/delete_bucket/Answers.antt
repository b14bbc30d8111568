use Rattle.std.proofs.Common.{refl}
use Rattle.bh_base.specs.Layer.{standing}
use Rattle.sqlite.specs.Held.{state}
use Rattle.bh_tables.proofs.Places.{buckets}
use Rattle.bh_tables.proofs.BucketTexts.{bucket_deleted, empty_goes}
use Rattle.bh_base.proofs.Calls.{removed}
use Rattle.bh_base.specs.Connections.{backing}
use Rattle.bh_base.specs.Shown.{shown}
use Rattle.bh_tables.specs.Typed.{totals_of, no_rows}
use Rattle.bh_base.proofs.Apart.{buckets_apart, bucket_goes}
use Rattle.bh_schema.proofs.rows.buckets.delete_bucket.Goals as goal

pub returns : goal.returns
returns g c =
    let h = rw (c.to_sql.ensures, c.to_sql-2.ensures) at c.write.ensures in
    let old = state g.S.Store c.args.connection.now.database in
    let a = backing g.P.Shelf c.args.connection.now.packs in
    let w = removed buckets (λ _. buckets_apart) a old (state g.S.Store c.write.new.connection) c.requires.inside (λ t l. refl) c.write.result h.live (bucket_deleted c.args.tenant.now c.args.bucket.now) (λ packs db. bucket_goes (totals_of no_rows) packs db _) (λ clean empty. empty_goes (standing (shown a old)).now (c.requires.inside clean).host c.args.tenant.now c.args.bucket.now empty.versions empty.uploads empty.unlocked) h.runs h.survives in
    record { writes = record { within = w.within; opens = w.opens; inside = w.inside }; holds = w.holds; trouble = w.trouble }
