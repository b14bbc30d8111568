use Rattle.std.proofs.lemmas.Result.{IfErr-weaker}
use Rattle.sqlite.specs.Held.{state}
use Rattle.bh_tables.proofs.TallyTexts.{tally_set, tally_may}
use Rattle.bh_schema.proofs.TallyCalls.{sets, sets_trouble}
use Rattle.bh_base.specs.Connections.{backing}
use Rattle.bh_schema.proofs.rows.tallies.set_tally.Goals as goal

pub returns : goal.returns
returns g c =
    let h = rw (c.to_sql.ensures, c.number.ensures, c.number-2.ensures, c.number-3.ensures) at c.write.ensures in
    let old = state g.S.Store c.args.connection.now.database in
    let a = backing g.P.Shelf c.args.connection.now.packs in
    let new = state g.S.Store c.write.new.connection in
    let t = c.args.tally in
    let it = tally_set c.args.tenant.now t.versions t.markers t.objects in
    let may = tally_may c.args.tenant.now t.versions t.markers t.objects c.requires.versions c.requires.markers c.requires.objects in
    let w = sets a old new c.requires.midst c.write.result h.live it h.runs h.survives in
    record {
      writes = record { within = w.within; opens = w.opens; midst = w.midst };
      rewrites = w.rewrites;
      trouble = IfErr-weaker c.write.result _ _ (λ e told intact unlimited. told intact unlimited tt) (sets_trouble a old new c.requires.midst c.write.result h.live it may h.runs h.survives);
    }
