use Rattle.std.proofs.Common.{refl, ◌∙◌}
use Rattle.std.proofs.lemmas.Result.{err_from_is_err_and}
use Rattle.bh_base.specs.Connections.{state}
use Rattle.bh_schema.specs.Working.{tables_at}
use Rattle.bh_objects.proofs.Working.{same_tables, asked_working, works_on, works_then}
use Rattle.bh_docs.specs.Pages.{versions_view}
use Rattle.bh_model.specs.Listings.{list_versions}
use Rattle.bh_model.specs.Operations.{Versions}
use Rattle.bh_listing.specs.Told.{asked_view}
use Rattle.bh_listing.specs.Versions.{place_view}
use Rattle.bh_listing.proofs.Refusing.{bucket_failed}
use Rattle.bh_listing.proofs.Telling.{versions_are}
use Rattle.bh_listing.proofs.VersionAnswering.{list_is, list_step}
use Rattle.bh_listing.proofs.versions.list_versions.Goals as goal

pub returns-clause-carries : goal.returns-clause-carries
returns-clause-carries g c clean =
    let old = state g.S.Store g.P.Shelf c.args.connection.now in
    let middle = state g.S.Store g.P.Shelf c.bucket_state.new.connection in
    let new = state g.S.Store g.P.Shelf c.page_entries.new.connection in
    let before = c.in_ok-entries.ensures.reads.within.follows.clean clean in
    let one = c.in_ok-bucket_state.ensures.decides before in
    list_step (tables_at old) (tables_at new) c.args.tenant.now c.args.bucket.now (asked_view c.args.asked.now) (place_view c.args.asked.now c.args.version) (versions_view c.in_ok-tell.field-0)
    (list_is (tables_at old) c.args.tenant.now c.args.bucket.now (c.requires.working (c.in_ok-bucket_state.ensures.works.within.follows.clean before)).sound c.in_ok-bucket_state.field-0 one.0 c.args.asked.now c.args.version
    (tables_at middle) c.as_str.result.now c.as_str-2.result.now c.as_str-3.result.now one.1 c.as_str.ensures.value c.as_str-2.ensures.value c.as_str-3.ensures.value c.in_ok-entries.entries.items c.deref.result.now c.deref.ensures.value
    (c.in_ok-entries.ensures.gathered clean) (versions_view c.in_ok-tell.field-0) (versions_are c.as_str-3.result.now (asked_view c.args.asked.now) _ c.in_ok-tell.field-0 c.in_ok-tell.ensures))
    (same_tables middle new (c.in_ok-entries.ensures.reads.same clean.intact) ∙ one.1)

pub page_entries-requires : goal.page_entries-requires
page_entries-requires g c = record { working = λ clean. (c.in_ok-bucket_state.ensures.works.working clean (λ bytes. bytes)).is }

pub returns-clause-working : goal.returns-clause-working
returns-clause-working g c clean =
    let old = state g.S.Store g.P.Shelf c.args.connection.now in
    let middle = state g.S.Store g.P.Shelf c.bucket_state.new.connection in
    let new = state g.S.Store g.P.Shelf c.page_entries.new.connection in
    works_then old middle new (c.in_ok-bucket_state.ensures.works.working (c.in_ok-entries.ensures.reads.within.follows.clean clean))
    (asked_working middle new (λ up. works_on old middle (c.in_ok-bucket_state.ensures.works.working up)) c.in_ok-entries.ensures.reads.within c.in_ok-entries.ensures.reads.same clean)

pub returns-in_err-bucket_state-clause-carries : goal.returns-in_err-bucket_state-clause-carries
returns-in_err-bucket_state-clause-carries g c clean =
    let p = err_from_is_err_and c.from_residual.result c.from_residual.ensures.1 in
    let old = tables_at (state g.S.Store g.P.Shelf c.args.connection.now) in
    let new = tables_at (state g.S.Store g.P.Shelf c.bucket_state.new.connection) in
    rw (p.1, p.2) (bucket_failed (λ page. Versions (versions_view page)) c.args.tenant.now c.args.bucket.now (list_versions c.args.bucket.now (asked_view c.args.asked.now) (place_view c.args.asked.now c.args.version))
    (λ v x none. rw none refl) old new c.in_err-bucket_state.field-0.0 (c.in_err-bucket_state.ensures.decides clean))
