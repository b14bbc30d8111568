use Rattle.std.proofs.Common.{refl, ◌≤◌, arith}
use Rattle.sqlite.specs.Held.{state}
use Rattle.bh_types.specs.BucketStates.{state_number}
use Rattle.bh_types.specs.declared.bucket_state.BucketState.{BucketState}
use Rattle.bh_types.specs.declared.bucket_state.BucketState.TheVariants.{Unversioned, Enabled, Suspended}
use Rattle.bh_tables.proofs.Places.{buckets}
use Rattle.bh_tables.proofs.BucketTexts.{state_set, state_may}
use Rattle.bh_base.proofs.Calls.{updated}
use Rattle.bh_base.specs.Connections.{backing}
use Rattle.bh_base.proofs.Apart.{buckets_apart}
use Rattle.bh_schema.proofs.rows.buckets.set_state.Goals as goal

state_low : (mode : BucketState) → state_number mode ≤ 2
state_low Unversioned = omega arith
state_low Enabled = omega arith
state_low Suspended = omega arith

pub returns : goal.returns
returns g c =
    let h = rw (c.to_sql.ensures, c.to_sql-2.ensures, c.number-2.ensures, c.number.ensures) at c.write.ensures in
    let old = state g.S.Store c.args.connection.now.database in
    let a = backing g.P.Shelf c.args.connection.now.packs in
    let w = updated buckets (λ _. buckets_apart) a old (state g.S.Store c.write.new.connection) c.requires.inside (λ t l. refl) c.write.result h.live (state_set c.args.tenant.now c.args.bucket.now (state_number c.args.state)) (state_may c.args.tenant.now c.args.bucket.now (state_number c.args.state) (state_low c.args.state)) h.runs h.survives in
    record { writes = record { within = w.within; opens = w.opens; inside = w.inside }; holds = w.holds; trouble = w.trouble }
