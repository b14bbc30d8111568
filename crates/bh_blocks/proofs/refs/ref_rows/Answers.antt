use Rattle.sqlite.specs.Held.{state}
use Rattle.bh_tables.proofs.Places.{refs}
use Rattle.bh_tables.proofs.RefTexts.{refs_listed}
use Rattle.bh_base.proofs.Calls.{sorted}
use Rattle.bh_base.specs.Connections.{backing}
use Rattle.bh_base.proofs.Apart.{refs_apart}
use Rattle.bh_blocks.proofs.refs.ref_rows.Goals as goal

pub returns : goal.returns
returns g c =
    let h = rw (c.to_sql.ensures, c.number.ensures) at c.query_all.ensures in
    let q = sorted refs (λ _. refs_apart) (backing g.P.Shelf c.args.connection.now.packs) (state g.S.Store c.args.connection.now.database) (state g.S.Store c.query_all.new.self) c.requires.inside (λ v. v.items) c.query_all.result (refs_listed (c.args.tenant.now, c.args.body)) h.ok h.err h.survives in
    record { reads = record { within = q.within; opens = q.opens; same = q.same }; rows = q.rows; trouble = q.trouble }
