use Rattle.std.proofs.lemmas.Result.{on_ok_weaker}
use Rattle.sqlite.specs.Held.{state}
use Rattle.bh_tables.specs.Shown.{Name}
use Rattle.bh_tables.proofs.PlaceTexts.{place_deleted, places_unused}
use Rattle.bh_tables.specs.Packs.{place_at, places_in}
use Rattle.bh_tables.proofs.Places.{places_is}
use Rattle.bh_tables.specs.Schema.{placed_table, at}
use Rattle.bh_tables.specs.Rows.{place_form}
use Rattle.bh_base.specs.Connections.{backing}
use Rattle.bh_base.specs.Shown.{shown}
use Rattle.bh_base.proofs.Beneath as beneath
use Rattle.bh_base.proofs.Blocks.{place_goes_out, places_after}
use Rattle.bh_base.proofs.PlaceCalls.{some_of, unpremised}
use Rattle.bh_base.proofs.places.delete_place.Goals as goal

pub returns : goal.returns
returns g c =
    let h = rw (c.to_sql.ensures, c.number.ensures) at c.execute.ensures in
    let old = state g.S.Store c.args.connection.now.database in
    let a = backing g.P.Shelf c.args.connection.now.packs in
    let new = state g.S.Store c.execute.new.self in
    let live = c.schema-schema.ensures.live in
    let q : Name = (c.args.digest.now, c.args.ord) in
    let w = place_goes_out a old new c.requires.midst c.execute.result live h.runs h.survives q (place_deleted q) (λ clean. some_of (place_at (places_in old.now.trees) q) (c.requires.placed clean)) in
    record {
      writes = record { within = w.turn.within; opens = w.turn.opens; midst = w.turn.midst };
      rewrites = w.turn.rewrites;
      displaced = on_ok_weaker c.execute.result (λ after clean. let it = after clean in record { places = it.places; packs = it.rows; contents = it.named }) (places_after a old new c.requires.midst c.execute.result w);
      trouble = unpremised (shown a old) (shown a new) c.execute.result (beneath.drops_trouble place_form 14 (at 34 placed_table) places_is (λ sums db h. h.held.places) a old new c.requires.midst c.execute.result live h.runs h.survives {A = Unit {0}} (place_deleted q) (λ clean _. places_unused old.now.trees _));
    }
