use Rattle.std.proofs.Common.{refl}
use Rattle.bh_base.specs.Layer.{standing}
use Rattle.sqlite.specs.Held.{state}
use Rattle.bh_tables.proofs.Places.{host}
use Rattle.bh_tables.proofs.HostTexts.{host_inserted, first_host}
use Rattle.bh_base.proofs.Calls.{inserted}
use Rattle.bh_base.specs.Connections.{backing}
use Rattle.bh_base.specs.Shown.{shown}
use Rattle.bh_tables.specs.Typed.{totals_of, no_rows}
use Rattle.bh_base.proofs.Apart.{host_apart, host_may}
use Rattle.bh_schema.proofs.rows.host.insert_host.Goals as goal

pub returns : goal.returns
returns g c =
    let h = rw (c.number.ensures, c.number-2.ensures, c.number-3.ensures) at c.write.ensures in
    let old = state g.S.Store c.args.connection.now.database in
    let a = backing g.P.Shelf c.args.connection.now.packs in
    let w = inserted host (λ _. host_apart) a old (state g.S.Store c.write.new.connection) c.requires.inside (λ t l. refl) c.write.result h.live (host_inserted c.args.min_part c.args.max_body c.args.digest) (λ packs db. host_may (totals_of no_rows) packs db _) (λ clean none. first_host (standing (shown a old)).now _ (none clean)) h.runs h.survives in
    record { writes = record { within = w.within; opens = w.opens; inside = w.inside }; holds = w.holds; trouble = w.trouble }
