use Rattle.std.proofs.Common.{refl}
use Rattle.std.proofs.lemmas.Result.{on_ok_weaker}
use Rattle.sqlite.specs.Held.{state}
use Rattle.bh_tables.proofs.Places.{buckets}
use Rattle.bh_base.proofs.Calls.{inserted}
use Rattle.bh_moved.proofs.Texts.{ruled_inserted}
use Rattle.bh_base.specs.Connections.{backing}
use Rattle.bh_base.proofs.Apart.{buckets_apart, bucket_may}
use Rattle.bh_tables.specs.Typed.{totals_of, no_rows}
use Rattle.bh_moved.proofs.buckets.insert_ruled.Goals as goal

pub returns : goal.returns
returns g c =
    let h = rw (c.to_sql.ensures, c.to_sql-2.ensures, c.number.ensures, c.number-2.ensures, c.number-3.ensures) at c.execute.ensures in
    let w = inserted buckets (λ _. buckets_apart) (backing g.Q.Shelf c.args.to.now.packs) (state g.T.Store c.args.to.now.database) (state g.T.Store c.execute.new.self) c.requires.inside (λ t l. refl) c.execute.result c.schema-schema.ensures.live (ruled_inserted c.args.tenant.now c.args.bucket.now c.args.created c.args.state c.args.days) (λ packs db. bucket_may (totals_of no_rows) packs db _) (λ clean (no : ⊥). absurd no) h.runs h.survives in
    record { writes = record { within = w.within; opens = w.opens; inside = on_ok_weaker c.execute.result (λ holds clean. (holds clean).within) w.holds }; holds = w.holds }
