use Rattle.std.proofs.Common.{rules, ap, ◌∙◌, map}
use Rattle.std.proofs.lemmas.Result.{err_from_is_err_and}
use Rattle.bh_base.specs.Connections.{state}
use Rattle.bh_model.specs.Shown.{naming_of}
use Rattle.bh_tables.specs.Typed.{Tables, PartRow}
use Rattle.bh_schema.specs.Working.{tables_at}
use Rattle.bh_objects.proofs.Working.{same_tables, host_at, any_unless}
use Rattle.bh_uploads.specs.declared.complete.Completion.{Completion}
use Rattle.bh_uploads.specs.Found.{joined_content}
use Rattle.bh_uploads.specs.Rows.{seen_row, listed_parts}
use Rattle.bh_uploads.proofs.Planning.{completion_is, completion_sized, completion_refused}
use Rattle.bh_uploads.proofs.Steps.{asked_then}
use Rattle.bh_uploads.specs.declared.reads.FoundUpload.{FoundUpload}
use Rattle.bh_uploads.proofs.Unfound.{plan_unfound}
use Rattle.bh_uploads.proofs.complete.completion_plan.Goals as goal

pub upload_parts-requires-clause-inside : goal.upload_parts-requires-clause-inside
upload_parts-requires-clause-inside g c clean = (c.in_ok-found.ensures.works.working clean (λ bytes. bytes)).is.inside

pub returns-in_err-joined-clause-works : goal.returns-in_err-joined-clause-works
returns-in_err-joined-clause-works g c = record {
  within = search rules;
  opens = search rules;
  working = any_unless c.from_residual-in_err-joined.result _ (asked_then (state g.S.Store g.P.Shelf c.args.connection.now) (state g.S.Store g.P.Shelf c.found_upload.new.connection) (state g.S.Store g.P.Shelf c.upload_parts.new.connection) c.in_ok-found.ensures.works.working c.in_ok-list.ensures.reads.within c.in_ok-list.ensures.reads.same);
}

pub returns-clause-works : goal.returns-clause-works
returns-clause-works g c = record {
  within = search rules;
  opens = search rules;
  working = asked_then (state g.S.Store g.P.Shelf c.args.connection.now) (state g.S.Store g.P.Shelf c.found_upload.new.connection) (state g.S.Store g.P.Shelf c.upload_parts.new.connection) c.in_ok-found.ensures.works.working c.in_ok-list.ensures.reads.within c.in_ok-list.ensures.reads.same;
}

pub returns-in_err-joined-clause-decides : goal.returns-in_err-joined-clause-decides
returns-in_err-joined-clause-decides g c clean =
    let p = err_from_is_err_and c.from_residual-in_err-joined.result c.from_residual-in_err-joined.ensures.1 in
    let u = c.args.upload.now in
    let first = state g.S.Store g.P.Shelf c.args.connection.now in
    let middle = state g.S.Store g.P.Shelf c.found_upload.new.connection in
    let last = state g.S.Store g.P.Shelf c.upload_parts.new.connection in
    let found = c.in_ok-found.found in
    let list = c.in_ok-list.list in
    let clean_middle = c.in_ok-list.ensures.reads.within.follows.clean clean in
    let one = c.in_ok-found.ensures.decides clean_middle in
    rw (p.1, p.2) (completion_refused (tables_at first) (host_at first (c.requires (c.in_ok-found.ensures.works.within.follows.clean clean_middle))) u.tenant.now u.bucket.now u.key.now u.upload found.mode found.number one.0 c.args.least (map naming_of c.args.named.now)
    list.rows.items ((c.in_ok-list.ensures.parts clean).rows ∙ ap (λ (x : Tables). map seen_row (listed_parts u.tenant.now found.number x)) one.1) list.bodies.items ((c.in_ok-list.ensures.parts clean).bodies ∙ ap (λ (x : Tables). map (λ (p : PartRow). p.body) (listed_parts u.tenant.now found.number x)) one.1)
    (tables_at last) (same_tables middle last (c.in_ok-list.ensures.reads.same clean.intact) ∙ one.1) c.in_err-joined.field-0.0 (λ (c : Completion). (c.mode, c.number, joined_content u.tenant.now (tables_at first) c.joined)) c.in_err-joined.ensures)

pub returns-clause-decides : goal.returns-clause-decides
returns-clause-decides g c clean =
    let u = c.args.upload.now in
    let first = state g.S.Store g.P.Shelf c.args.connection.now in
    let middle = state g.S.Store g.P.Shelf c.found_upload.new.connection in
    let last = state g.S.Store g.P.Shelf c.upload_parts.new.connection in
    let found = c.in_ok-found.found in
    let list = c.in_ok-list.list in
    let clean_middle = c.in_ok-list.ensures.reads.within.follows.clean clean in
    let one = c.in_ok-found.ensures.decides clean_middle in (
      completion_is (tables_at first) (host_at first (c.requires (c.in_ok-found.ensures.works.within.follows.clean clean_middle))) u.tenant.now u.bucket.now u.key.now u.upload found.mode found.number one.0 c.args.least (map naming_of c.args.named.now)
          list.rows.items ((c.in_ok-list.ensures.parts clean).rows ∙ ap (λ (x : Tables). map seen_row (listed_parts u.tenant.now found.number x)) one.1) list.bodies.items ((c.in_ok-list.ensures.parts clean).bodies ∙ ap (λ (x : Tables). map (λ (p : PartRow). p.body) (listed_parts u.tenant.now found.number x)) one.1)
          c.in_ok-joined.joined c.in_ok-joined.ensures,
      same_tables middle last (c.in_ok-list.ensures.reads.same clean.intact) ∙ one.1,
    )

pub returns-clause-size : goal.returns-clause-size
returns-clause-size g c clean =
    let u = c.args.upload.now in
    let first = state g.S.Store g.P.Shelf c.args.connection.now in
    let found = c.in_ok-found.found in
    let list = c.in_ok-list.list in
    let clean_middle = c.in_ok-list.ensures.reads.within.follows.clean clean in
    let one = c.in_ok-found.ensures.decides clean_middle in
    completion_sized (tables_at first) (host_at first (c.requires (c.in_ok-found.ensures.works.within.follows.clean clean_middle))) u.tenant.now u.bucket.now u.key.now u.upload found.mode found.number one.0 c.args.least (map naming_of c.args.named.now)
    list.rows.items ((c.in_ok-list.ensures.parts clean).rows ∙ ap (λ (x : Tables). map seen_row (listed_parts u.tenant.now found.number x)) one.1) list.bodies.items ((c.in_ok-list.ensures.parts clean).bodies ∙ ap (λ (x : Tables). map (λ (p : PartRow). p.body) (listed_parts u.tenant.now found.number x)) one.1)
    c.in_ok-joined.joined c.in_ok-joined.ensures

pub returns-in_err-found-clause-decides : goal.returns-in_err-found-clause-decides
returns-in_err-found-clause-decides g c clean =
    let p = err_from_is_err_and c.from_residual.result c.from_residual.ensures.1 in
    let u = c.args.upload.now in
    let first = state g.S.Store g.P.Shelf c.args.connection.now in
    rw (p.1, p.2) (plan_unfound (λ (f : FoundUpload). (f.mode, f.number)) u.tenant.now u.bucket.now u.key.now u.upload (tables_at first) (tables_at (state g.S.Store g.P.Shelf c.found_upload.new.connection))
    (λ (c : Completion). (c.mode, c.number, joined_content u.tenant.now (tables_at first) c.joined)) c.args.least (map naming_of c.args.named.now) c.in_err-found.field-0.0 (c.in_err-found.ensures.decides clean))
