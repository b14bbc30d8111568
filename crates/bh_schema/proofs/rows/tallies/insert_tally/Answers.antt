use Rattle.std.proofs.Common.{zero-le}
use Rattle.sqlite.specs.Held.{state}
use Rattle.bh_tables.proofs.TallyTexts.{tally_inserted, new_tally}
use Rattle.bh_base.specs.Layer.{standing}
use Rattle.bh_schema.proofs.TallyCalls.{adds, adds_trouble}
use Rattle.bh_base.specs.Connections.{backing}
use Rattle.bh_base.specs.Shown.{shown}
use Rattle.bh_schema.proofs.rows.tallies.insert_tally.Goals as goal

pub returns : goal.returns
returns g c =
    let h = rw c.to_sql.ensures at c.write.ensures in
    let old = state g.S.Store c.args.connection.now.database in
    let a = backing g.P.Shelf c.args.connection.now.packs in
    let new = state g.S.Store c.write.new.connection in
    let it = tally_inserted c.args.tenant.now in
    let w = adds a old new c.requires.midst c.write.result h.live it h.runs h.survives in
    record {
      writes = record { within = w.within; opens = w.opens; midst = w.midst };
      rewrites = w.rewrites;
      trouble = adds_trouble a old new c.requires.midst c.write.result h.live it (λ clean is.
          let m = c.requires.midst clean in
          new_tally (standing (shown a old)).now m.by.host c.args.tenant.now 0 0 0 zero-le zero-le zero-le ((is clean).0 m.sums m.by) (is clean).1) h.runs h.survives;
    }
