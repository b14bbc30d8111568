use Rattle.bh_pages.proofs.LastLemmas.{last_is, some_rows, past_made}
use Rattle.bh_pages.proofs.places.past_last.Goals as goal

pub returns : goal.returns
returns g c =
    past_made g.R.Row.spot c.args.asked.now c.args.rows.now c.index-rows-rows.result _ c.place_past.result c.spot-number.ensures
    (last_is c.args.rows.now c.index-rows-rows.result (some_rows c.args.rows.now c.if-is_empty.ensures) c.index-rows-rows.is) c.place_past.ensures
