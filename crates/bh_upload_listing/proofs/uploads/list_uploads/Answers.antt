use Rattle.std.proofs.Common.{refl, map, ◌∙◌}
use Rattle.std.proofs.lemmas.Result.{err_from_is_err_and}
use Rattle.bh_base.specs.Connections.{state}
use Rattle.bh_schema.specs.Working.{tables_at}
use Rattle.bh_objects.proofs.Working.{same_tables, asked_working, works_on, works_then}
use Rattle.bh_docs.specs.Pages.{uploads_view}
use Rattle.bh_model.specs.Operations.{Uploads}
use Rattle.bh_listing.specs.Told.{asked_view}
use Rattle.bh_pages.specs.Seen.{token_of}
use Rattle.bh_pages.specs.Uploads.{seen_entry}
use Rattle.bh_pages.specs.Versions.{seen_place}
use Rattle.bh_listing.proofs.Telling.{uploads_are}
use Rattle.bh_upload_listing.specs.Places.{place_view, marked, place_by}
use Rattle.bh_listing.specs.Uploads.{own_items}
use Rattle.bh_upload_listing.proofs.Answering.{list_is, list_step, gathered_from}
use Rattle.bh_upload_listing.proofs.Refusing.{uploads_failed}
use Rattle.bh_upload_listing.proofs.Starting.{begins_so}
use Rattle.bh_upload_listing.proofs.Viewed.{small_numbers}
use Rattle.bh_upload_listing.proofs.uploads.list_uploads.Goals as goal

pub returns-clause-carries : goal.returns-clause-carries
returns-clause-carries g c clean =
    let old = state g.S.Store g.P.Shelf c.args.connection.now in
    let middle = state g.S.Store g.P.Shelf c.bucket_state.new.connection in
    let new = state g.S.Store g.P.Shelf c.gather_uploads.new.connection in
    let before = c.in_ok-entries.ensures.reads.within.follows.clean clean in
    let one = c.in_ok-bucket_state.ensures.decides before in
    let asked = c.args.asked.now in
    let t = c.as_str.result.now in
    let b = c.as_str-2.result.now in
    let items = own_items t b (tables_at middle).uploads in
    let sound = (c.in_ok-bucket_state.ensures.works.working before (λ bytes. bytes)).is.sound in
    let gathered = gathered_from asked (seen_place c.in_ok-place.place) (place_by asked (marked asked.prefix.now (token_of asked) c.args.upload)) c.args.upload t b (tables_at middle) (tables_at middle) (map seen_entry c.in_ok-entries.entries.items)
    refl c.in_ok-place.ensures.is (begins_so asked c.args.upload items (small_numbers (tables_at middle) t b sound)) (c.in_ok-entries.ensures.gathered clean) in
    list_step (tables_at old) (tables_at new) c.args.tenant.now c.args.bucket.now (asked_view c.args.asked.now) (place_view c.args.asked.now c.args.upload) (uploads_view c.in_ok-tell.field-0)
    (list_is (tables_at old) c.args.tenant.now c.args.bucket.now (c.requires.working (c.in_ok-bucket_state.ensures.works.within.follows.clean before)).sound c.in_ok-bucket_state.field-0 one.0 c.args.asked.now c.args.upload
    (tables_at middle) c.as_str.result.now c.as_str-2.result.now c.as_str-3.result.now one.1 c.as_str.ensures.value c.as_str-2.ensures.value c.as_str-3.ensures.value c.in_ok-entries.entries.items c.deref.result.now c.deref.ensures.value
    gathered (uploads_view c.in_ok-tell.field-0) (uploads_are c.as_str-3.result.now (asked_view c.args.asked.now) _ c.in_ok-tell.field-0 c.in_ok-tell.ensures))
    (same_tables middle new (c.in_ok-entries.ensures.reads.same clean.intact) ∙ one.1)

pub gather_uploads-requires-clause-working : goal.gather_uploads-requires-clause-working
gather_uploads-requires-clause-working g c clean = (c.in_ok-bucket_state.ensures.works.working clean (λ bytes. bytes)).is

pub returns-clause-working : goal.returns-clause-working
returns-clause-working g c clean =
    let old = state g.S.Store g.P.Shelf c.args.connection.now in
    let middle = state g.S.Store g.P.Shelf c.bucket_state.new.connection in
    let new = state g.S.Store g.P.Shelf c.gather_uploads.new.connection in
    works_then old middle new (c.in_ok-bucket_state.ensures.works.working (c.in_ok-entries.ensures.reads.within.follows.clean clean))
    (asked_working middle new (λ up. works_on old middle (c.in_ok-bucket_state.ensures.works.working up)) c.in_ok-entries.ensures.reads.within c.in_ok-entries.ensures.reads.same clean)

pub returns-in_err-bucket_state-clause-carries : goal.returns-in_err-bucket_state-clause-carries
returns-in_err-bucket_state-clause-carries g c clean =
    let p = err_from_is_err_and c.from_residual.result c.from_residual.ensures.1 in
    let old = tables_at (state g.S.Store g.P.Shelf c.args.connection.now) in
    let new = tables_at (state g.S.Store g.P.Shelf c.bucket_state.new.connection) in
    rw (p.1, p.2) (uploads_failed (λ page. Uploads (uploads_view page)) c.args.tenant.now c.args.bucket.now old new (asked_view c.args.asked.now) (place_view c.args.asked.now c.args.upload) c.in_err-bucket_state.field-0.0 (c.in_err-bucket_state.ensures.decides clean))
