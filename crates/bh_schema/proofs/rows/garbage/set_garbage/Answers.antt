use Rattle.std.proofs.lemmas.Result.{IfErr-weaker}
use Rattle.sqlite.specs.Held.{state}
use Rattle.bh_tables.proofs.GarbageTexts.{garbage_set, garbage_may}
use Rattle.bh_schema.proofs.GarbageCalls.{sets, sets_trouble}
use Rattle.bh_base.specs.Connections.{backing}
use Rattle.bh_schema.proofs.rows.garbage.set_garbage.Goals as goal

pub returns : goal.returns
returns g c =
    let h = rw c.number.ensures at c.write.ensures in
    let old = state g.S.Store c.args.connection.now.database in
    let a = backing g.P.Shelf c.args.connection.now.packs in
    let new = state g.S.Store c.write.new.connection in
    let it = garbage_set c.args.bytes in
    let w = sets a old new c.requires.midst c.write.result h.live it h.runs h.survives in
    record {
      writes = record { within = w.within; opens = w.opens; midst = w.midst };
      rewrites = w.rewrites;
      trouble = IfErr-weaker c.write.result _ _ (λ e told intact unlimited. told intact unlimited tt) (sets_trouble a old new c.requires.midst c.write.result h.live it (garbage_may c.args.bytes c.requires.small) h.runs h.survives);
    }
