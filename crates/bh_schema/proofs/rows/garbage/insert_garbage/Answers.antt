use Rattle.std.proofs.Common.{◌∙◌}
use Rattle.sqlite.specs.Held.{state}
use Rattle.bh_tables.proofs.GarbageTexts.{garbage_inserted, first_garbage}
use Rattle.bh_base.specs.Layer.{standing}
use Rattle.bh_schema.proofs.GarbageCalls.{adds, adds_trouble}
use Rattle.bh_base.specs.Connections.{backing}
use Rattle.bh_base.specs.Shown.{shown}
use Rattle.bh_schema.proofs.rows.garbage.insert_garbage.Goals as goal

pub returns : goal.returns
returns g c =
    let h = rw c.number.ensures at c.write.ensures in
    let old = state g.S.Store c.args.connection.now.database in
    let a = backing g.P.Shelf c.args.connection.now.packs in
    let new = state g.S.Store c.write.new.connection in
    let it = garbage_inserted c.args.bytes in
    let w = adds a old new c.requires.midst c.write.result h.live it h.runs h.survives in
    record {
      writes = record { within = w.within; opens = w.opens; midst = w.midst };
      rewrites = w.rewrites;
      trouble = adds_trouble a old new c.requires.midst c.write.result h.live it (λ clean is.
          let m = c.requires.midst clean in
          first_garbage (standing (shown a old)).now c.args.bytes c.requires.small (m.by.host.held.weighed ∙ is clean m.sums m.by)) h.runs h.survives;
    }
