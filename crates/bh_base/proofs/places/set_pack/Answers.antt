use Rattle.std.proofs.lemmas.Result.{on_ok_weaker}
use Rattle.sqlite.specs.Held.{state}
use Rattle.bh_tables.specs.Schema.{packs_table, at}
use Rattle.bh_rows.specs.Form.{Entry, entries}
use Rattle.bh_tables.specs.Packs.{is_pack}
use Rattle.bh_tables.specs.Rows.{PackRow, pack_form}
use Rattle.bh_tables.proofs.Places.{packs_is}
use Rattle.bh_tables.proofs.PlaceTexts.{pack_set, pack_may}
use Rattle.bh_base.specs.Connections.{backing}
use Rattle.bh_base.specs.Shown.{shown}
use Rattle.bh_base.proofs.Beneath as beneath
use Rattle.bh_base.proofs.Blocks.{pack_is_set, packs_after}
use Rattle.bh_base.proofs.PlaceCalls.{unpremised, has_passed}
use Rattle.bh_base.proofs.places.set_pack.Goals as goal

pub returns : goal.returns
returns g c =
    let h = rw (c.number.ensures, c.number-2.ensures, c.number-3.ensures) at c.execute.ensures in
    let old = state g.S.Store c.args.connection.now.database in
    let a = backing g.P.Shelf c.args.connection.now.packs in
    let new = state g.S.Store c.execute.new.self in
    let live = c.schema-schema.ensures.live in
    let text = pack_set c.args.pack c.args.length c.args.live in
    let may = pack_may c.args.pack c.args.length c.args.live c.requires.length c.requires.live in
    let w = pack_is_set a old new c.requires.midst c.execute.result live h.runs h.survives c.args.pack c.args.length c.args.live text c.requires.longest in
    record {
      writes = record { within = w.turn.within; opens = w.turn.opens; midst = w.turn.midst };
      rewrites = w.turn.rewrites;
      set = on_ok_weaker c.execute.result (λ after clean. let it = after clean in record { packs = it.rows; places = it.places; contents = it.named }) (packs_after a old new c.requires.midst c.execute.result w);
      trouble = unpremised (shown a old) (shown a new) c.execute.result (beneath.sets_trouble pack_form 13 (at 32 packs_table) packs_is (λ sums db h. h.held.packs) a old new c.requires.midst c.execute.result live h.runs h.survives {A = Unit {0}} text may.unwatched
          (λ clean _ e there suits. may.suits e.0 e.1 (has_passed (λ (d : Entry PackRow). is_pack c.args.pack d.1) (entries pack_form (old.now.trees 32)) e there) suits));
    }
