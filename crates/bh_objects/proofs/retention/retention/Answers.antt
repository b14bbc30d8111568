use Rattle.std.proofs.lemmas.Result.{err_from_is_err_and}
use Rattle.std.proofs.Common.{rules}
use Rattle.bh_base.specs.Connections.{state}
use Rattle.bh_model.specs.Operations.{Retention}
use Rattle.bh_schema.specs.Views.{head_seen}
use Rattle.bh_schema.specs.Working.{tables_at}
use Rattle.bh_objects.proofs.Working.{same_tables, asked_working, works_then, unless_then}
use Rattle.bh_objects.proofs.Retaining.{gets, gets_failed}
use Rattle.bh_objects.proofs.Unfound.{date_unfound}
use Rattle.bh_objects.proofs.retention.retention.Goals as goal

pub returns-clause-carries : goal.returns-clause-carries
returns-clause-carries g c clean =
    let first = state g.S.Store g.P.Shelf c.args.connection.now in
    let last = state g.S.Store g.P.Shelf c.dated_head.new.connection in
    let new = state g.S.Store g.P.Shelf c.version_date.new.connection in
    let clean_last = c.in_ok-version_date.ensures.reads.within.follows.clean clean in
    let clean_first = c.in_ok-head.ensures.works.within.follows.clean clean_last in
    let one = c.in_ok-bucket_state.ensures.decides clean_first in
    let two = c.in_ok-head.ensures.decides clean_last in
    gets (tables_at first) (tables_at (state g.S.Store g.P.Shelf c.bucket_state.new.connection)) c.args.tenant.now c.args.bucket.now c.args.key.now (c.requires (c.in_ok-bucket_state.ensures.works.within.follows.clean clean_first)).sound _ one.0 c.args.wanted one.1
    (tables_at last) two.1 (head_seen c.in_ok-head.head) two.0 (tables_at new) _ (c.in_ok-version_date.ensures.found clean) (same_tables last new (c.in_ok-version_date.ensures.reads.same clean.intact))

pub returns-clause-works : goal.returns-clause-works
returns-clause-works g c = record {
  within = search rules;
  opens = search rules;
  working = λ clean.
      let first = state g.S.Store g.P.Shelf c.args.connection.now in
      let last = state g.S.Store g.P.Shelf c.dated_head.new.connection in
      let new = state g.S.Store g.P.Shelf c.version_date.new.connection in
      let clean_last = c.in_ok-version_date.ensures.reads.within.follows.clean clean in
      works_then first last new
      (works_then first (state g.S.Store g.P.Shelf c.bucket_state.new.connection) last (c.in_ok-bucket_state.ensures.works.working (c.in_ok-head.ensures.works.within.follows.clean clean_last)) (c.in_ok-head.ensures.works.working clean_last))
      (asked_working last new (λ clean_was. (c.in_ok-head.ensures.works.working clean_was (λ bytes. bytes)).is) c.in_ok-version_date.ensures.reads.within c.in_ok-version_date.ensures.reads.same clean);
}

pub returns-in_err-head-clause-carries : goal.returns-in_err-head-clause-carries
returns-in_err-head-clause-carries g c clean =
    let p = err_from_is_err_and c.from_residual-in_err-head.result c.from_residual-in_err-head.ensures.1 in
    let clean_first = c.in_err-head.ensures.works.within.follows.clean clean in
    let one = c.in_ok-bucket_state.ensures.decides clean_first in
    rw (p.1, p.2) (gets_failed (tables_at (state g.S.Store g.P.Shelf c.args.connection.now)) (tables_at (state g.S.Store g.P.Shelf c.bucket_state.new.connection)) c.args.tenant.now c.args.bucket.now c.args.key.now
    (c.requires (c.in_ok-bucket_state.ensures.works.within.follows.clean clean_first)).sound _ one.0 c.args.wanted one.1 head_seen Retention (tables_at (state g.S.Store g.P.Shelf c.dated_head.new.connection)) c.in_err-head.field-0.0 (c.in_err-head.ensures.decides clean))

pub dated_head-requires : goal.dated_head-requires
dated_head-requires g c clean = (c.in_ok-bucket_state.ensures.works.working clean (λ bytes. bytes)).is

pub version_date-requires : goal.version_date-requires
version_date-requires g c clean = (c.in_ok-head.ensures.works.working clean (λ bytes. bytes)).is.inside

pub returns-in_err-head-clause-works : goal.returns-in_err-head-clause-works
returns-in_err-head-clause-works g c = record {
  within = search rules;
  opens = search rules;
  working =
      let p = err_from_is_err_and c.from_residual-in_err-head.result c.from_residual-in_err-head.ensures.1 in
      rw (p.1, p.2) (unless_then _ _ c.in_err-head.field-0.0
      (λ still clean. works_then (state g.S.Store g.P.Shelf c.args.connection.now) (state g.S.Store g.P.Shelf c.bucket_state.new.connection) (state g.S.Store g.P.Shelf c.dated_head.new.connection) (c.in_ok-bucket_state.ensures.works.working (c.in_err-head.ensures.works.within.follows.clean clean)) (still clean)) c.in_err-head.ensures.works.working);
}

pub returns-in_err-bucket_state-clause-carries : goal.returns-in_err-bucket_state-clause-carries
returns-in_err-bucket_state-clause-carries g c clean =
    let p = err_from_is_err_and c.from_residual.result c.from_residual.ensures.1 in
    rw (p.1, p.2) (date_unfound (λ mode. mode) Retention c.args.tenant.now c.args.bucket.now c.args.key.now c.args.wanted (tables_at (state g.S.Store g.P.Shelf c.args.connection.now)) (tables_at (state g.S.Store g.P.Shelf c.bucket_state.new.connection))
    c.in_err-bucket_state.field-0.0 (c.in_err-bucket_state.ensures.decides clean))
