use Rattle.std.proofs.lemmas.Result.{on_ok_weaker}
use Rattle.sqlite.specs.Held.{state}
use Rattle.bh_tables.specs.Rows.{PackRow}
use Rattle.bh_tables.proofs.PlaceTexts.{pack_inserted}
use Rattle.bh_base.specs.Connections.{backing}
use Rattle.bh_base.proofs.Blocks.{pack_comes_in, packs_after}
use Rattle.bh_base.proofs.places.add_pack.Goals as goal

pub returns : goal.returns
returns g c =
    let h = rw (c.number.ensures, c.number-2.ensures, c.number-3.ensures) at c.execute.ensures in
    let old = state g.S.Store c.args.connection.now.database in
    let a = backing g.P.Shelf c.args.connection.now.packs in
    let new = state g.S.Store c.execute.new.self in
    let live = c.schema-schema.ensures.live in
    let k : PackRow = record { pack = c.args.pack; length = c.args.length; live = c.args.live } in
    let w = pack_comes_in a old new c.requires.midst c.execute.result live h.runs h.survives (pack_inserted k) in
    record {
      writes = record { within = w.turn.within; opens = w.turn.opens; midst = w.turn.midst };
      rewrites = w.turn.rewrites;
      added = on_ok_weaker c.execute.result (λ after clean. let it = after clean in record { packs = it.rows; places = it.places; contents = it.named }) (packs_after a old new c.requires.midst c.execute.result w);
    }
