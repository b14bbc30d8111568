use Rattle.bh_rows.proofs.ScanLemmas.{first_row}
use Rattle.bh_schema.proofs.Asking.{failed, no_value, first}
use Rattle.bh_base.proofs.Calls.{selected}
use Rattle.bh_base.specs.Connections.{tables}
use Rattle.bh_tables.proofs.Places.{uploads}
use Rattle.bh_tables.proofs.UploadTexts.{upload_shown}
use Rattle.bh_tables.specs.Shown.{is_upload, shown_upload}
use Rattle.bh_tables.specs.Typed.{UploadRow, totals_of, tables as tables_of}
use Rattle.bh_uploads.specs.Rows.{seen_upload, upload_seen}
use Rattle.sqlite.specs.Held.{state}
use Rattle.sqlite.specs.Order.{Row}
use Rattle.std.proofs.Common.{List, Ok, Err, ap, find, slice_get, ◌∙◌}
use Rattle.std.specs.Str.{IsUtf8}
use Rattle.bh_base.specs.Connections.{backing}
use Rattle.bh_base.specs.Shown.{shown}
use Rattle.bh_base.proofs.Apart.{uploads_apart}
use Rattle.bh_uploads.proofs.rows.uploads.find_upload.Goals as goal

pub returns-in_err-rows : goal.returns-in_err-rows
returns-in_err-rows g c =
    let h = rw (c.to_sql.ensures, c.number.ensures) at c.in_err-rows.ensures in
    let old = c.args.connection.now in
    let new = c.query_all.new.self in
    let q = selected uploads (λ _. uploads_apart) (backing g.P.Shelf old.packs) (state g.S.Store old.database) (state g.S.Store new) c.requires.inside (λ (l : List Row). l) (Err c.in_err-rows.field-0.0) (upload_shown (totals_of (tables_of (shown (backing g.P.Shelf old.packs) (state g.S.Store old.database)))) c.args.tenant.now c.args.upload) h.ok h.err h.survives in
    let f = failed g.S.Store g.P.Shelf old (record old { database = new }) c.from_residual.result _ c.from_residual.ensures q in
    record { reads = f.reads; found = no_value _ _ _ c.from_residual.ensures }

pub returns : goal.returns
returns g c =
    let h = rw (c.to_sql.ensures, c.number.ensures) at c.in_ok-rows.ensures in
    let old = c.args.connection.now in
    let new = c.query_all.new.self in
    let q = selected uploads (λ _. uploads_apart) (backing g.P.Shelf old.packs) (state g.S.Store old.database) (state g.S.Store new) c.requires.inside (λ (l : List Row). l) (Ok c.in_ok-rows.rows.items) (upload_shown (totals_of (tables_of (shown (backing g.P.Shelf old.packs) (state g.S.Store old.database)))) c.args.tenant.now c.args.upload) h.ok h.err h.survives in
    let a = first g.S.Store g.P.Shelf old (record old { database = new }) c.first_of.result _ shown_upload (λ u. u) upload_seen seen_upload (λ (u : UploadRow). IsUtf8 u.bucket) c.first_of.ensures.found c.first_of.ensures.trouble q (find (is_upload c.args.tenant.now c.args.upload) (tables g.S.Store g.P.Shelf old).uploads)
    (λ clean. ap (λ l. slice_get l 0) c.deref.ensures.value ∙ first_row shown_upload (is_upload c.args.tenant.now c.args.upload) _ _ (q.rows clean)) in
    record { reads = a.reads; found = a.found }
