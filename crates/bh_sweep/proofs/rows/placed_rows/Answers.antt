use Rattle.std.proofs.Common.{ap, sum_by}
use Rattle.sqlite.specs.Held.{state}
use Rattle.bh_rows.specs.Form.{typed}
use Rattle.bh_tables.specs.Rows.{PlaceRow, place_form}
use Rattle.bh_tables.proofs.Statements.{all_pass}
use Rattle.bh_base.specs.Connections.{backing}
use Rattle.bh_sweep.proofs.Totals.{summed}
use Rattle.bh_sweep.proofs.PlacedText.{places_summed}
use Rattle.bh_sweep.proofs.rows.placed_rows.Goals as goal

pub returns : goal.returns
returns g c =
    let h = c.query_all.ensures in
    let old = state g.S.Store c.args.connection.now.database in
    let q = summed place_form 34 (λ sums db h. h.held.places) (backing g.P.Shelf c.args.connection.now.packs) old (state g.S.Store c.query_all.new.self) c.requires.inside (λ v. v.items) c.query_all.result _ _ _ _ places_summed h.ok h.err h.survives _ (ap (sum_by (λ (p : PlaceRow). p.size)) (all_pass (typed place_form (old.now.trees 34)))) in
    record { within = q.within; opens = q.opens; same = q.same; rows = q.rows; trouble = q.trouble }
