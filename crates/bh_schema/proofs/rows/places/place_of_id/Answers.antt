use Rattle.bh_rows.proofs.ScanLemmas.{first_row}
use Rattle.bh_schema.proofs.Asking.{failed, no_value, plain}
use Rattle.bh_schema.proofs.VersionCalls.{selected}
use Rattle.bh_base.specs.Connections.{tables}
use Rattle.bh_schema.specs.Tallies.{place_of}
use Rattle.bh_tables.proofs.VersionTexts.{place_shown}
use Rattle.bh_tables.specs.Shown.{is_version, shown_place}
use Rattle.bh_tables.specs.Typed.{VersionRow}
use Rattle.sqlite.specs.Held.{state}
use Rattle.sqlite.specs.Order.{Row}
use Rattle.std.proofs.Common.{List, Ok, Err, ap, find, slice_get, ◌∙◌}
use Rattle.bh_base.specs.Connections.{backing}
use Rattle.bh_schema.proofs.rows.places.place_of_id.Goals as goal

pub returns-in_err-rows : goal.returns-in_err-rows
returns-in_err-rows g c =
    let h = rw (c.to_sql.ensures, c.to_sql-2.ensures, c.to_sql-3.ensures, c.number.ensures) at c.in_err-rows.ensures in
    let old = c.args.connection.now in
    let new = c.query_all.new.self in
    let q = selected (backing g.P.Shelf old.packs) (state g.S.Store old.database) (state g.S.Store new) c.requires.inside (λ (l : List Row). l) (Err c.in_err-rows.field-0.0) (place_shown c.args.tenant.now c.args.bucket.now c.args.okey.now c.args.id) h.ok h.err h.survives in
    let f = failed g.S.Store g.P.Shelf old (record old { database = new }) c.from_residual.result _ c.from_residual.ensures q in
    record { reads = f.reads; found = no_value _ _ _ c.from_residual.ensures; trouble = f.trouble }

pub returns : goal.returns
returns g c =
    let h = rw (c.to_sql.ensures, c.to_sql-2.ensures, c.to_sql-3.ensures, c.number.ensures) at c.in_ok-rows.ensures in
    let old = c.args.connection.now in
    let new = c.query_all.new.self in
    let q = selected (backing g.P.Shelf old.packs) (state g.S.Store old.database) (state g.S.Store new) c.requires.inside (λ (l : List Row). l) (Ok c.in_ok-rows.rows.items) (place_shown c.args.tenant.now c.args.bucket.now c.args.okey.now c.args.id) h.ok h.err h.survives in
    let a = plain g.S.Store g.P.Shelf old (record old { database = new }) c.first_of.result _ shown_place (λ (v : VersionRow). v) place_of c.first_of.ensures.found c.first_of.ensures.trouble q (find (is_version c.args.tenant.now c.args.bucket.now c.args.okey.now c.args.id) (tables g.S.Store g.P.Shelf old).versions)
    (λ clean. ap (λ l. slice_get l 0) c.deref.ensures.value ∙ first_row shown_place (is_version c.args.tenant.now c.args.bucket.now c.args.okey.now c.args.id) _ _ (q.rows clean)) in
    record { reads = a.reads; found = a.found; trouble = a.trouble }
