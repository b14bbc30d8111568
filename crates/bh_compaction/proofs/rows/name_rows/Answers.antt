use Rattle.std.proofs.Common.{ap}
use Rattle.std.proofs.lemmas.Result.{on_ok_weaker}
use Rattle.sqlite.specs.Held.{state}
use Rattle.sqlite.specs.Effect.{Database}
use Rattle.bh_rows.specs.Form.{typed}
use Rattle.bh_tables.specs.Rows.{block_form}
use Rattle.bh_tables.specs.Packs.{places_in, packs_in}
use Rattle.bh_base.specs.Connections.{backing}
use Rattle.bh_base.specs.Shown.{named}
use Rattle.bh_compaction.proofs.Told.{names_told}
use Rattle.bh_compaction.proofs.rows.name_rows.Goals as goal

pub returns : goal.returns
returns g c =
    let h = rw (c.number.ensures, c.number-2.ensures) at c.query_all.ensures in
    let old = state g.S.Store c.args.connection.now.database in
    let a = backing g.P.Shelf c.args.connection.now.packs in
    let new = state g.S.Store c.query_all.new.self in
    let t = names_told a old new c.requires.reads (λ v. v.items) c.query_all.result c.args.pack c.args.limit h.ok h.err h.survives in
    record {
      reads = record { within = t.within; opens = t.opens; same = t.same };
      rows = t.rows;
      still = on_ok_weaker c.query_all.result (λ same clean. let it = same clean in record {
        places = ap (λ (db : Database). places_in db.trees) it.0;
        packs = ap (λ (db : Database). packs_in db.trees) it.0;
        blocks = ap (λ (db : Database). typed block_form (db.trees 10)) it.0;
        contents = ap (named a) it.1;
      }) t.unchanged;
      trouble = t.trouble;
    }
