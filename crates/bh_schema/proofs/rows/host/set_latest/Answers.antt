use Rattle.std.proofs.Common.{refl}
use Rattle.sqlite.specs.Held.{state}
use Rattle.bh_tables.proofs.Places.{host}
use Rattle.bh_tables.proofs.HostTexts.{latest_set, latest_may}
use Rattle.bh_base.proofs.Calls.{updated}
use Rattle.bh_base.specs.Connections.{backing}
use Rattle.bh_base.proofs.Apart.{host_apart}
use Rattle.bh_schema.proofs.rows.host.set_latest.Goals as goal

pub returns : goal.returns
returns g c =
    let h = rw c.number.ensures at c.write.ensures in
    let old = state g.S.Store c.args.connection.now.database in
    let a = backing g.P.Shelf c.args.connection.now.packs in
    let w = updated host (λ _. host_apart) a old (state g.S.Store c.write.new.connection) c.requires.inside (λ t l. refl) c.write.result h.live (latest_set c.args.stamp) (latest_may c.args.stamp) h.runs h.survives in
    record { writes = record { within = w.within; opens = w.opens; inside = w.inside }; holds = w.holds; trouble = w.trouble }
