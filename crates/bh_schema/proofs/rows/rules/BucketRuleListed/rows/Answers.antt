use Rattle.sqlite.specs.Held.{state}
use Rattle.bh_tables.proofs.Places.{buckets}
use Rattle.bh_tables.proofs.BucketTexts.{rules_listed}
use Rattle.bh_base.proofs.Calls.{sorted}
use Rattle.bh_base.specs.Connections.{backing}
use Rattle.bh_base.proofs.Apart.{buckets_apart}
use Rattle.bh_schema.proofs.rows.rules.BucketRuleListed.rows.Goals as goal

pub returns : goal.returns
returns g c =
    let h = rw c.to_sql.ensures at c.query_all.ensures in
    let q = sorted buckets (λ _. buckets_apart) (backing g.P.Shelf c.args.connection.now.packs) (state g.S.Store c.args.connection.now.database) (state g.S.Store c.query_all.new.self) c.requires.inside (λ v. v.items) c.query_all.result (rules_listed c.args.tenant.now) h.ok h.err h.survives in
    record { reads = record { within = q.within; opens = q.opens; same = q.same }; rows = q.rows; trouble = q.trouble }
