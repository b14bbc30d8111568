use Rattle.std.proofs.Common.{◌≡◌, nat_le, true, refl}
use Rattle.bh_types.specs.BucketStates.{state_number}
use Rattle.bh_types.specs.declared.bucket_state.BucketState.{BucketState}
use Rattle.bh_types.specs.declared.bucket_state.BucketState.TheVariants.{Unversioned, Enabled, Suspended}
use Rattle.bh_base.specs.Layer.{standing}
use Rattle.sqlite.specs.Held.{state}
use Rattle.bh_tables.proofs.Places.{buckets}
use Rattle.bh_tables.proofs.BucketTexts.{bucket_inserted, new_bucket}
use Rattle.bh_base.proofs.Calls.{inserted}
use Rattle.bh_base.specs.Connections.{backing}
use Rattle.bh_base.specs.Shown.{shown}
use Rattle.bh_tables.specs.Typed.{totals_of, no_rows}
use Rattle.bh_base.proofs.Apart.{buckets_apart, bucket_may}
use Rattle.bh_schema.proofs.rows.buckets.insert_bucket.Goals as goal

state_low : (mode : BucketState) → nat_le (state_number mode) 2 ≡ true
state_low Unversioned = refl
state_low Enabled = refl
state_low Suspended = refl

pub returns : goal.returns
returns g c =
    let h = rw (c.to_sql.ensures, c.to_sql-2.ensures, c.number.ensures, c.number-3.ensures, c.number-2.ensures) at c.write.ensures in
    let old = state g.S.Store c.args.connection.now.database in
    let a = backing g.P.Shelf c.args.connection.now.packs in
    let w = inserted buckets (λ _. buckets_apart) a old (state g.S.Store c.write.new.connection) c.requires.inside (λ t l. refl) c.write.result h.live (bucket_inserted c.args.tenant.now c.args.bucket.now c.args.created (state_number c.args.state))
    (λ packs db. bucket_may (totals_of no_rows) packs db _) (λ clean is. new_bucket (standing (shown a old)).now (c.requires.inside clean).host _ (state_low c.args.state) is.free is.owned) h.runs h.survives in
    record { writes = record { within = w.within; opens = w.opens; inside = w.inside }; holds = w.holds; trouble = w.trouble }
