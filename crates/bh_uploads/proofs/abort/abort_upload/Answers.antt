use Rattle.std.proofs.Common.{rules, None, false, map, ap, ◌∙◌}
use Rattle.bh_base.specs.Connections.{state}
use Rattle.bh_model.specs.Operations.{Removed}
use Rattle.bh_model.specs.Uploads.{abort_upload}
use Rattle.bh_tables.specs.Typed.{PartRow, Tables}
use Rattle.bh_base.specs.Layer.{IsStateClean}
use Rattle.bh_schema.specs.Working.{tables_at}
use Rattle.bh_objects.proofs.Working.{host_at, same_tables}
use Rattle.bh_uploads.specs.Rows.{listed_parts}
use Rattle.bh_uploads.specs.Writes.{upload_closed}
use Rattle.bh_uploads.proofs.Completing.{Completes, aborts}
use Rattle.bh_uploads.proofs.Steps.{asked_then}
use Rattle.std.proofs.lemmas.Result.{err_from_is_err_and}
use Rattle.bh_storage.specs.Answers.{removed_answer}
use Rattle.bh_uploads.specs.declared.reads.FoundUpload.{FoundUpload}
use Rattle.bh_uploads.proofs.Unfound.{abort_unfound}
use Rattle.bh_uploads.proofs.abort.abort_upload.Given as given
use Rattle.bh_uploads.proofs.abort.abort_upload.Goals as goal

done : (g : given.Over) (c : goal.After-drop-list-3 g) → IsStateClean (state g.S.Store g.P.Shelf c.close_upload.new.connection)
    → Completes c.args.upload.now.tenant.now (abort_upload c.args.upload.now.bucket.now c.args.upload.now.key.now c.args.upload.now.upload) (Removed None false)
    (tables_at (state g.S.Store g.P.Shelf c.args.connection.now)) (tables_at (state g.S.Store g.P.Shelf c.close_upload.new.connection))
done g c clean =
    let first = state g.S.Store g.P.Shelf c.args.connection.now in
    let middle = state g.S.Store g.P.Shelf c.found_upload.new.connection in
    let u = c.args.upload.now in
    let n = c.in_ok-found.found.number in
    let clean_list = c.in_ok-close_upload.ensures.changes.within.follows.clean clean in
    let clean_middle = c.in_ok-list.ensures.reads.within.follows.clean clean_list in
    let clean_old = c.in_ok-found.ensures.works.within.follows.clean clean_middle in
    let one = c.in_ok-found.ensures.decides clean_middle in
    let same = same_tables middle (state g.S.Store g.P.Shelf c.upload_parts.new.connection) (c.in_ok-list.ensures.reads.same clean_list.intact) ∙ one.1 in
    aborts (tables_at first) (tables_at (state g.S.Store g.P.Shelf c.close_upload.new.connection)) (host_at first (c.requires.working clean_old)) u.tenant.now u.bucket.now u.key.now u.upload c.in_ok-found.found.mode n one.0 c.in_ok-list.list.bodies.items
    ((c.in_ok-list.ensures.parts clean_list).bodies ∙ ap (λ (x : Tables). map (λ (p : PartRow). p.body) (listed_parts u.tenant.now n x)) one.1)
    ((rw c.deref.ensures.value at (c.in_ok-close_upload.ensures.changes.holds clean).is) ∙ ap (upload_closed u.tenant.now n c.in_ok-list.list.bodies.items) same)

pub returns-clause-works : goal.returns-clause-works
returns-clause-works g c = record {
  within = search rules;
  opens = search rules;
  working = λ clean.
      let it = done g c clean in
      λ digest. record { is = record { inside = (c.in_ok-close_upload.ensures.changes.holds clean).within; sound = it.sound; bodies = it.bodies }; limits = it.limits; digests = it.digests digest };
}

pub returns-clause-carries : goal.returns-clause-carries
returns-clause-carries g c clean = rw c.nothing_told.ensures (done g c clean).step

pub upload_parts-requires-clause-inside : goal.upload_parts-requires-clause-inside
upload_parts-requires-clause-inside g c clean = (c.in_ok-found.ensures.works.working clean (λ bytes. bytes)).is.inside

pub close_upload-requires-clause-inside : goal.close_upload-requires-clause-inside
close_upload-requires-clause-inside g c clean = (asked_then (state g.S.Store g.P.Shelf c.args.connection.now) (state g.S.Store g.P.Shelf c.found_upload.new.connection) (state g.S.Store g.P.Shelf c.upload_parts.new.connection) c.in_ok-found.ensures.works.working c.in_ok-list.ensures.reads.within c.in_ok-list.ensures.reads.same clean (λ bytes. bytes)).is.inside

pub returns-in_err-found-clause-carries : goal.returns-in_err-found-clause-carries
returns-in_err-found-clause-carries g c clean =
    let p = err_from_is_err_and c.from_residual.result c.from_residual.ensures.1 in
    let u = c.args.upload.now in
    rw (p.1, p.2) (abort_unfound (λ (f : FoundUpload). (f.mode, f.number)) u.tenant.now u.bucket.now u.key.now u.upload (tables_at (state g.S.Store g.P.Shelf c.args.connection.now)) (tables_at (state g.S.Store g.P.Shelf c.found_upload.new.connection))
    removed_answer c.in_err-found.field-0.0 (c.in_err-found.ensures.decides clean))
