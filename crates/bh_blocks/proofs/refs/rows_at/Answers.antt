use Rattle.sqlite.specs.Held.{state}
use Rattle.bh_tables.proofs.Places.{refs}
use Rattle.bh_tables.proofs.RefTexts.{ref_shown}
use Rattle.bh_base.proofs.Calls.{selected_read}
use Rattle.bh_base.specs.Connections.{backing}
use Rattle.bh_base.proofs.Apart.{refs_apart}
use Rattle.bh_blocks.proofs.refs.rows_at.Goals as goal

pub returns : goal.returns
returns g c =
    let h = rw (c.to_sql.ensures, c.number.ensures, c.number-2.ensures) at c.query_all.ensures in
    let q = selected_read refs (λ _. refs_apart) (backing g.P.Shelf c.args.connection.now.packs) (state g.S.Store c.args.connection.now.database) (state g.S.Store c.query_all.new.self) c.requires.reads (λ v. v.items) c.query_all.result (ref_shown (c.args.at.now.tenant.now, c.args.at.now.body) c.args.at.now.place) h.ok h.err h.survives in
    record { reads = record { within = q.within; opens = q.opens; same = q.same }; rows = q.rows; trouble = q.trouble }
