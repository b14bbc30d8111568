use Rattle.std.proofs.Common.{rules, option_map, Err, sym, ap, ◌∙◌}
use Rattle.std.proofs.lemmas.Result.{err_from_is_err_and}
use Rattle.bh_base.specs.Connections.{state}
use Rattle.bh_tables.specs.Typed.{Tables}
use Rattle.bh_view.specs.Wanted.{wanted_row}
use Rattle.bh_schema.specs.Rows.{seen_head}
use Rattle.bh_schema.specs.Views.{head_seen}
use Rattle.bh_schema.specs.Working.{tables_at}
use Rattle.bh_objects.specs.Answers.{head_looked}
use Rattle.bh_objects.specs.Copies.{version_read}
use Rattle.bh_objects.proofs.Working.{host_at, works_then}
use Rattle.bh_objects.proofs.Copying.{source_bucket_failed, source_is, source_is_refused, source_sized}
use Rattle.bh_objects.proofs.copies.source_head.Goals as goal

pub returns-in_err-bucket_state-clause-decides : goal.returns-in_err-bucket_state-clause-decides
returns-in_err-bucket_state-clause-decides g c clean =
    let p = err_from_is_err_and c.from_residual.result c.from_residual.ensures.1 in
    let copy = c.args.copy.now in
    let old = tables_at (state g.S.Store g.P.Shelf c.args.connection.now) in
    rw (p.1, p.2) (source_bucket_failed (λ mode. mode) (λ head. version_read copy.tenant.now old (head_seen head)) copy.tenant.now copy.source_bucket.now copy.source_key.now copy.version
    old (tables_at (state g.S.Store g.P.Shelf c.bucket_state.new.connection)) c.in_err-bucket_state.field-0.0 (c.in_err-bucket_state.ensures.decides clean))

pub returns-in-Ok-clause-decides : goal.returns-in-Ok-clause-decides
returns-in-Ok-clause-decides g c clean =
    let copy = c.args.copy.now in
    let first = state g.S.Store g.P.Shelf c.args.connection.now in
    let clean_first = c.in-Ok.ensures.works.within.follows.clean clean in
    let one = c.in_ok-bucket_state.ensures.decides clean_first in
    let two = c.in-Ok.ensures.decides clean in
    let host = host_at first (c.requires (c.in_ok-bucket_state.ensures.works.within.follows.clean clean_first)) in
    let looked = ap (λ (x : Tables). head_looked copy.version (option_map seen_head (wanted_row copy.tenant.now copy.source_bucket.now copy.source_key.now copy.version x.versions))) (sym one.1) ∙ two.0 in
    (source_is (tables_at first) copy.tenant.now copy.source_bucket.now copy.source_key.now host.sound _ one.0 copy.version (head_seen c.in-Ok.head) looked host.resolved, two.1 ∙ one.1)

pub returns-in-Ok-clause-sized : goal.returns-in-Ok-clause-sized
returns-in-Ok-clause-sized g c clean =
    let copy = c.args.copy.now in
    let first = state g.S.Store g.P.Shelf c.args.connection.now in
    let clean_first = c.in-Ok.ensures.works.within.follows.clean clean in
    let one = c.in_ok-bucket_state.ensures.decides clean_first in
    let host = host_at first (c.requires (c.in_ok-bucket_state.ensures.works.within.follows.clean clean_first)) in
    let looked = ap (λ (x : Tables). head_looked copy.version (option_map seen_head (wanted_row copy.tenant.now copy.source_bucket.now copy.source_key.now copy.version x.versions))) (sym one.1) ∙ (c.in-Ok.ensures.decides clean).0 in
    source_sized (tables_at first) copy.tenant.now copy.source_bucket.now copy.source_key.now host.sound _ one.0 copy.version (head_seen c.in-Ok.head) looked host.resolved

pub wanted_head-requires : goal.wanted_head-requires
wanted_head-requires g c clean = (c.in_ok-bucket_state.ensures.works.working clean (λ bytes. bytes)).is

pub returns-in-Ok-clause-works : goal.returns-in-Ok-clause-works
returns-in-Ok-clause-works g c = record {
  within = search rules;
  opens = search rules;
  working = λ clean.
      works_then (state g.S.Store g.P.Shelf c.args.connection.now) (state g.S.Store g.P.Shelf c.bucket_state.new.connection) (state g.S.Store g.P.Shelf c.wanted_head.new.connection)
      (c.in_ok-bucket_state.ensures.works.working (c.in-Ok.ensures.works.within.follows.clean clean)) (c.in-Ok.ensures.works.working clean);
}

pub returns-in-Err-Refused-clause-works : goal.returns-in-Err-Refused-clause-works
returns-in-Err-Refused-clause-works g c = record {
  within = search rules;
  opens = search rules;
  working = λ clean.
      works_then (state g.S.Store g.P.Shelf c.args.connection.now) (state g.S.Store g.P.Shelf c.bucket_state.new.connection) (state g.S.Store g.P.Shelf c.wanted_head.new.connection)
      (c.in_ok-bucket_state.ensures.works.working (c.in-Err-Refused.ensures.works.within.follows.clean clean)) ((rw c.in-Err-Refused.field-0-is at c.in-Err-Refused.ensures.works.working) clean);
}

pub returns-in-Err-Refused-clause-decides : goal.returns-in-Err-Refused-clause-decides
returns-in-Err-Refused-clause-decides g c clean =
    let copy = c.args.copy.now in
    let first = state g.S.Store g.P.Shelf c.args.connection.now in
    let clean_first = c.in-Err-Refused.ensures.works.within.follows.clean clean in
    let one = c.in_ok-bucket_state.ensures.decides clean_first in
    let two = (rw c.in-Err-Refused.field-0-is at c.in-Err-Refused.ensures.decides) clean in
    let host = host_at first (c.requires (c.in_ok-bucket_state.ensures.works.within.follows.clean clean_first)) in
    let looked = ap (λ (x : Tables). head_looked copy.version (option_map seen_head (wanted_row copy.tenant.now copy.source_bucket.now copy.source_key.now copy.version x.versions))) (sym one.1) ∙ two.0 in
    (source_is_refused (tables_at first) copy.tenant.now copy.source_bucket.now copy.source_key.now host.sound _ one.0 copy.version c.in-Err-Refused.rejection looked ∙ ap Err (sym c.source_refused.ensures), two.1 ∙ one.1)
