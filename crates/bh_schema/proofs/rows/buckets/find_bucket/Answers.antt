use Rattle.bh_rows.proofs.ScanLemmas.{first_row}
use Rattle.bh_schema.proofs.Asking.{failed, no_value, plain}
use Rattle.bh_base.proofs.Calls.{selected}
use Rattle.bh_base.specs.Connections.{tables}
use Rattle.bh_schema.specs.Rows.{bucket_numbers}
use Rattle.bh_tables.proofs.BucketTexts.{bucket_shown}
use Rattle.bh_tables.proofs.Places.{buckets}
use Rattle.bh_tables.specs.Shown.{is_bucket, shown_bucket}
use Rattle.sqlite.specs.Held.{state}
use Rattle.sqlite.specs.Order.{Row}
use Rattle.std.proofs.Common.{List, Ok, Err, ap, find, slice_get, ◌∙◌}
use Rattle.bh_base.specs.Connections.{backing}
use Rattle.bh_base.proofs.Apart.{buckets_apart}
use Rattle.bh_schema.proofs.rows.buckets.find_bucket.Goals as goal

pub returns-in_err-rows : goal.returns-in_err-rows
returns-in_err-rows g c =
    let h = rw (c.to_sql.ensures, c.to_sql-2.ensures) at c.in_err-rows.ensures in
    let old = c.args.connection.now in
    let new = c.query_all.new.self in
    let q = selected buckets (λ _. buckets_apart) (backing g.P.Shelf old.packs) (state g.S.Store old.database) (state g.S.Store new) c.requires.inside (λ (l : List Row). l) (Err c.in_err-rows.field-0.0) (bucket_shown c.args.tenant.now c.args.bucket.now) h.ok h.err h.survives in
    let f = failed g.S.Store g.P.Shelf old (record old { database = new }) c.from_residual.result _ c.from_residual.ensures q in
    record { reads = f.reads; found = no_value _ _ _ c.from_residual.ensures; trouble = f.trouble }

pub returns : goal.returns
returns g c =
    let h = rw (c.to_sql.ensures, c.to_sql-2.ensures) at c.in_ok-rows.ensures in
    let old = c.args.connection.now in
    let new = c.query_all.new.self in
    let q = selected buckets (λ _. buckets_apart) (backing g.P.Shelf old.packs) (state g.S.Store old.database) (state g.S.Store new) c.requires.inside (λ (l : List Row). l) (Ok c.in_ok-rows.rows.items) (bucket_shown c.args.tenant.now c.args.bucket.now) h.ok h.err h.survives in
    let a = plain g.S.Store g.P.Shelf old (record old { database = new }) c.first_of.result _ shown_bucket (λ b. b) bucket_numbers c.first_of.ensures.found c.first_of.ensures.trouble q (find (is_bucket c.args.tenant.now c.args.bucket.now) (tables g.S.Store g.P.Shelf old).buckets)
    (λ clean. ap (λ l. slice_get l 0) c.deref.ensures.value ∙ first_row shown_bucket (is_bucket c.args.tenant.now c.args.bucket.now) _ _ (q.rows clean)) in
    record { reads = a.reads; found = a.found; trouble = a.trouble }
