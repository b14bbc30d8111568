use Rattle.std.proofs.Common.{ap, sum_by}
use Rattle.std.proofs.lemmas.Result.{on_ok_weaker}
use Rattle.sqlite.specs.Held.{state}
use Rattle.sqlite.specs.Effect.{Database}
use Rattle.bh_rows.specs.Form.{typed}
use Rattle.bh_tables.specs.Rows.{PackRow, pack_form, block_form}
use Rattle.bh_tables.specs.Packs.{places_in, packs_in}
use Rattle.bh_tables.proofs.Statements.{all_pass}
use Rattle.bh_base.specs.Connections.{backing}
use Rattle.bh_base.specs.Shown.{named}
use Rattle.bh_sweep.proofs.Totals.{summed}
use Rattle.bh_sweep.proofs.PackTexts.{lengths_summed}
use Rattle.bh_sweep.proofs.packs.byte_rows.Goals as goal

pub returns : goal.returns
returns g c =
    let h = c.query_all.ensures in
    let a = backing g.P.Shelf c.args.connection.now.packs in
    let old = state g.S.Store c.args.connection.now.database in
    let q = summed pack_form 32 (λ sums db h. h.held.packs) a old (state g.S.Store c.query_all.new.self) c.requires.inside (λ v. v.items) c.query_all.result _ _ _ _ lengths_summed h.ok h.err h.survives _ (ap (sum_by (λ (p : PackRow). p.length)) (all_pass (typed pack_form (old.now.trees 32)))) in
    record {
      within = q.within;
      opens = q.opens;
      same = q.same;
      rows = q.rows;
      still = on_ok_weaker c.query_all.result (λ same clean. let it = same clean in record {
        places = ap (λ (db : Database). places_in db.trees) it.0;
        packs = ap (λ (db : Database). packs_in db.trees) it.0;
        blocks = ap (λ (db : Database). typed block_form (db.trees 10)) it.0;
        contents = ap (named a) it.1;
      }) q.still;
    }
