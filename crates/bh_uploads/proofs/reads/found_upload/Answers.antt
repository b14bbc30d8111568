use Rattle.std.proofs.Common.{rules, Ok, sym, ap, ◌∙◌}
use Rattle.std.proofs.lemmas.Result.{err_from_is_err_and}
use Rattle.bh_base.specs.Connections.{state}
use Rattle.bh_schema.specs.Working.{tables_at}
use Rattle.bh_objects.proofs.Working.{works_then, unless_then}
use Rattle.bh_view.specs.View.{view}
use Rattle.bh_uploads.specs.declared.reads.FoundUpload.{FoundUpload}
use Rattle.bh_uploads.specs.Found.{upload_there, upload_in}
use Rattle.bh_uploads.proofs.Uploads.{upload_read, upload_refused}
use Rattle.bh_uploads.proofs.reads.found_upload.Goals as goal

pub require_upload-requires : goal.require_upload-requires
require_upload-requires g c clean = (c.in_ok-mode.ensures.works.working clean (λ bytes. bytes)).is

pub returns-in_err-require_upload-clause-works : goal.returns-in_err-require_upload-clause-works
returns-in_err-require_upload-clause-works g c = record {
  within = search rules;
  opens = search rules;
  working =
      let p = err_from_is_err_and c.from_residual-in_err-require_upload.result c.from_residual-in_err-require_upload.ensures.1 in
      rw (p.1, p.2) (unless_then _ _ c.in_err-require_upload.field-0.0
      (λ still clean. works_then (state g.S.Store g.P.Shelf c.args.connection.now) (state g.S.Store g.P.Shelf c.bucket_state.new.connection) (state g.S.Store g.P.Shelf c.require_upload.new.connection) (c.in_ok-mode.ensures.works.working (c.in_err-require_upload.ensures.works.within.follows.clean clean)) (still clean)) c.in_err-require_upload.ensures.works.working);
}

pub returns-in_err-require_upload-clause-decides : goal.returns-in_err-require_upload-clause-decides
returns-in_err-require_upload-clause-decides g c clean =
    let p = err_from_is_err_and c.from_residual-in_err-require_upload.result c.from_residual-in_err-require_upload.ensures.1 in
    let u = c.args.upload.now in
    let first = state g.S.Store g.P.Shelf c.args.connection.now in
    let clean_first = c.in_err-require_upload.ensures.works.within.follows.clean clean in
    let one = c.in_ok-mode.ensures.decides clean_first in
    rw (p.1, p.2) (upload_refused (tables_at first) (tables_at (state g.S.Store g.P.Shelf c.bucket_state.new.connection)) (tables_at (state g.S.Store g.P.Shelf c.require_upload.new.connection)) u.tenant.now u.bucket.now u.key.now (c.requires (c.in_ok-mode.ensures.works.within.follows.clean clean_first)).sound
    c.in_ok-mode.mode one.0 one.1 u.upload c.in-Some.id c.in-Some.is c.in_err-require_upload.field-0.0 (λ (found : FoundUpload). (found.mode, found.number)) (c.in_err-require_upload.ensures.decides clean))

pub returns-clause-works : goal.returns-clause-works
returns-clause-works g c = record {
  within = search rules;
  opens = search rules;
  working = λ clean. works_then (state g.S.Store g.P.Shelf c.args.connection.now) (state g.S.Store g.P.Shelf c.bucket_state.new.connection) (state g.S.Store g.P.Shelf c.require_upload.new.connection) (c.in_ok-mode.ensures.works.working (c.in_ok-require_upload.ensures.works.within.follows.clean clean)) (c.in_ok-require_upload.ensures.works.working clean);
}

pub returns-clause-decides : goal.returns-clause-decides
returns-clause-decides g c clean =
    let u = c.args.upload.now in
    let first = state g.S.Store g.P.Shelf c.args.connection.now in
    let clean_first = c.in_ok-require_upload.ensures.works.within.follows.clean clean in
    let one = c.in_ok-mode.ensures.decides clean_first in
    let two = c.in_ok-require_upload.ensures.decides clean in (
      ap (λ o. upload_in u.bucket.now u.key.now o (view (tables_at first) u.tenant.now)) c.in-Some.is
          ∙ upload_read (tables_at first) u.tenant.now u.bucket.now u.key.now (c.requires (c.in_ok-mode.ensures.works.within.follows.clean clean_first)).sound c.in_ok-mode.mode one.0 c.in-Some.id (Ok tt) (ap (upload_there u.tenant.now u.bucket.now u.key.now c.in-Some.id.number) (sym one.1) ∙ two.0),
      two.1 ∙ one.1,
    )
