use Rattle.std.proofs.Common.{List, Ok, Err, ◌∙◌}
use Rattle.std.proofs.lemmas.Result.{IfOk-weaker, IfErr-weaker}
use Rattle.bh_schema.proofs.Asking.{failed, no_value, answered, answered_clean}
use Rattle.bh_schema.proofs.VersionCalls.{selected_two}
use Rattle.bh_base.specs.Connections.{tables}
use Rattle.bh_schema.specs.Rows.{entries_at}
use Rattle.bh_tables.proofs.VersionTexts.{newest_places_shown}
use Rattle.sqlite.specs.Held.{state}
use Rattle.sqlite.specs.Order.{Row}
use Rattle.bh_base.specs.Connections.{backing}
use Rattle.bh_schema.proofs.rows.places.newest_places.Goals as goal

pub returns-in_err-rows : goal.returns-in_err-rows
returns-in_err-rows g c =
    let h = rw (c.to_sql.ensures, c.to_sql-2.ensures, c.to_sql-3.ensures) at c.in_err-rows.ensures in
    let old = c.args.connection.now in
    let new = c.query_all.new.self in
    let q = selected_two (backing g.P.Shelf old.packs) (state g.S.Store old.database) (state g.S.Store new) c.requires.inside (λ (l : List Row). l) (Err c.in_err-rows.field-0.0) (newest_places_shown c.args.tenant.now c.args.bucket.now c.args.okey.now) h.ok h.err h.survives in
    let f = failed g.S.Store g.P.Shelf old (record old { database = new }) c.from_residual.result _ c.from_residual.ensures q in
    record { reads = f.reads; first = no_value _ _ _ c.from_residual.ensures; second = no_value _ _ _ c.from_residual.ensures; trouble = f.trouble }

pub returns : goal.returns
returns g c =
    let h = rw (c.to_sql.ensures, c.to_sql-2.ensures, c.to_sql-3.ensures) at c.in_ok-rows.ensures in
    let old = c.args.connection.now in
    let new = c.query_all.new.self in
    let q = selected_two (backing g.P.Shelf old.packs) (state g.S.Store old.database) (state g.S.Store new) c.requires.inside (λ (l : List Row). l) (Ok c.in_ok-rows.rows.items) (newest_places_shown c.args.tenant.now c.args.bucket.now c.args.okey.now) h.ok h.err h.survives in
    let entries = entries_at c.args.tenant.now c.args.bucket.now c.args.okey.now (tables g.S.Store g.P.Shelf old).versions in
    record {
      reads = answered g.S.Store g.P.Shelf old (record old { database = new }) c.read_places.result q;
      first = IfOk-weaker c.read_places.result _ _ (λ found reads clean. reads entries (c.deref.ensures.value ∙ q.rows clean)) c.read_places.ensures.first;
      second = IfOk-weaker c.read_places.result _ _ (λ found reads clean. reads entries (c.deref.ensures.value ∙ q.rows clean)) c.read_places.ensures.second;
      trouble = IfErr-weaker c.read_places.result _ _ (λ e told intact unlimited. told entries (c.deref.ensures.value ∙ q.rows (answered_clean g.S.Store g.P.Shelf old (record old { database = new }) c.read_places.result q.opens intact))) c.read_places.ensures.trouble;
    }
