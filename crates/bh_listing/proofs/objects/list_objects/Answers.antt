use Rattle.std.proofs.Common.{◌∙◌}
use Rattle.bh_base.specs.Connections.{state}
use Rattle.bh_schema.specs.Working.{tables_at}
use Rattle.bh_objects.proofs.Working.{same_tables, asked_working, works_on, works_then}
use Rattle.bh_docs.specs.Pages.{page_view}
use Rattle.bh_pages.specs.Seen.{token_of}
use Rattle.bh_listing.specs.Told.{asked_view}
use Rattle.bh_listing.proofs.Telling.{objects_are}
use Rattle.bh_listing.proofs.Answering.{list_is, list_step}
use Rattle.bh_listing.proofs.objects.list_objects.Goals as goal

pub returns-clause-carries : goal.returns-clause-carries
returns-clause-carries g c clean =
    let old = state g.S.Store g.P.Shelf c.args.connection.now in
    let middle = state g.S.Store g.P.Shelf c.bucket_state.new.connection in
    let new = state g.S.Store g.P.Shelf c.gather_objects.new.connection in
    let before = c.in_ok-entries.ensures.reads.within.follows.clean clean in
    let one = c.in_ok-bucket_state.ensures.decides before in
    list_step (tables_at old) (tables_at new) c.args.tenant.now c.args.bucket.now (asked_view c.args.asked.now) (token_of c.args.asked.now) (page_view c.in_ok-tell.field-0)
    (list_is (tables_at old) c.args.tenant.now c.args.bucket.now (c.requires.working (c.in_ok-bucket_state.ensures.works.within.follows.clean before)).sound c.in_ok-bucket_state.field-0 one.0 c.args.asked.now
    (tables_at middle) c.as_str.result.now c.as_str-2.result.now c.as_str-3.result.now one.1 c.as_str.ensures.value c.as_str-2.ensures.value c.as_str-3.ensures.value c.in_ok-entries.entries.items c.deref.result.now c.deref.ensures.value
    (c.in_ok-entries.ensures.gathered clean) (page_view c.in_ok-tell.field-0) (objects_are c.as_str-3.result.now (asked_view c.args.asked.now) _ c.in_ok-tell.field-0 c.in_ok-tell.ensures))
    (same_tables middle new (c.in_ok-entries.ensures.reads.same clean.intact) ∙ one.1)

pub gather_objects-requires : goal.gather_objects-requires
gather_objects-requires g c = record { working = λ clean. (c.in_ok-bucket_state.ensures.works.working clean (λ bytes. bytes)).is }

pub returns-clause-working : goal.returns-clause-working
returns-clause-working g c clean =
    let old = state g.S.Store g.P.Shelf c.args.connection.now in
    let middle = state g.S.Store g.P.Shelf c.bucket_state.new.connection in
    let new = state g.S.Store g.P.Shelf c.gather_objects.new.connection in
    works_then old middle new (c.in_ok-bucket_state.ensures.works.working (c.in_ok-entries.ensures.reads.within.follows.clean clean))
    (asked_working middle new (λ up. works_on old middle (c.in_ok-bucket_state.ensures.works.working up)) c.in_ok-entries.ensures.reads.within c.in_ok-entries.ensures.reads.same clean)
