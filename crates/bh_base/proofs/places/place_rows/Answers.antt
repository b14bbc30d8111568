use Rattle.std.proofs.Common.{ap}
use Rattle.std.proofs.lemmas.Result.{on_ok_weaker}
use Rattle.sqlite.specs.Held.{state}
use Rattle.sqlite.specs.Effect.{Database}
use Rattle.bh_rows.specs.Form.{typed}
use Rattle.bh_tables.specs.Schema.{placed_table, at}
use Rattle.bh_tables.specs.Rows.{block_form, place_form}
use Rattle.bh_tables.specs.Packs.{places_in, packs_in}
use Rattle.bh_tables.proofs.PlaceTexts.{place_found}
use Rattle.bh_base.specs.Connections.{backing}
use Rattle.bh_base.specs.Shown.{named}
use Rattle.bh_base.proofs.Beneath.{selected}
use Rattle.bh_base.proofs.places.place_rows.Goals as goal

pub returns : goal.returns
returns g c =
    let h = rw (c.to_sql.ensures, c.number.ensures) at c.query_all.ensures in
    let old = state g.S.Store c.args.connection.now.database in
    let a = backing g.P.Shelf c.args.connection.now.packs in
    let new = state g.S.Store c.query_all.new.self in
    let t = selected place_form (at 34 placed_table) (λ sums db h. h.held.places) a old new c.requires.reads (λ v. v.items) c.query_all.result h.ok h.err h.survives (place_found (c.args.digest.now, c.args.ord)) in
    record {
      reads = record { within = t.within; opens = t.opens; same = t.same };
      rows = t.rows;
      still = on_ok_weaker c.query_all.result (λ same clean. let it = same clean in record {
        places = ap (λ (db : Database). places_in db.trees) it.0;
        packs = ap (λ (db : Database). packs_in db.trees) it.0;
        blocks = ap (λ (db : Database). typed block_form (db.trees 10)) it.0;
        contents = ap (named a) it.1;
      }) t.unchanged;
      trouble = t.trouble;
    }
