use Rattle.std.proofs.Common.{rules, sym, subst}
use Rattle.bh_base.specs.Connections.{state}
use Rattle.bh_model.specs.Operations.{Answer, head_object}
use Rattle.bh_schema.specs.Views.{head_seen}
use Rattle.bh_schema.specs.Working.{tables_at}
use Rattle.bh_storage.specs.Answers.{head_answer}
use Rattle.bh_storage.specs.Calls.{GivesStep}
use Rattle.bh_objects.proofs.Getting.{heads, heads_failed}
use Rattle.bh_objects.proofs.Working.{works_then, unless_then}
use Rattle.std.proofs.lemmas.Result.{err_from_is_err_and}
use Rattle.bh_objects.proofs.Unfound.{head_unfound}
use Rattle.bh_objects.proofs.heads.head_object.Goals as goal

pub returns-in-Ok-clause-carries : goal.returns-in-Ok-clause-carries
returns-in-Ok-clause-carries g c clean =
    let old = tables_at (state g.S.Store g.P.Shelf c.args.connection.now) in
    let middle = tables_at (state g.S.Store g.P.Shelf c.bucket_state.new.connection) in
    let new = tables_at (state g.S.Store g.P.Shelf c.wanted_head.new.connection) in
    let clean_first = c.in-Ok.ensures.works.within.follows.clean clean in
    let one = c.in_ok-mode.ensures.decides clean_first in
    let two = c.in-Ok.ensures.decides clean in
    subst (λ (a : Answer). GivesStep c.args.tenant.now (head_object c.args.bucket.now c.args.key.now c.args.wanted) a old new) (sym c.told_head.ensures)
    (heads old middle c.args.tenant.now c.args.bucket.now c.args.key.now (c.requires (c.in_ok-mode.ensures.works.within.follows.clean clean_first)).sound c.in_ok-mode.mode one.0 c.args.wanted one.1 new (head_seen c.in-Ok.head) two.0 two.1)

pub returns-in-Err-clause-carries : goal.returns-in-Err-clause-carries
returns-in-Err-clause-carries g c clean =
    let clean_first = c.in-Err.ensures.works.within.follows.clean clean in
    let one = c.in_ok-mode.ensures.decides clean_first in
    heads_failed (tables_at (state g.S.Store g.P.Shelf c.args.connection.now)) (tables_at (state g.S.Store g.P.Shelf c.bucket_state.new.connection)) c.args.tenant.now c.args.bucket.now c.args.key.now
    (c.requires (c.in_ok-mode.ensures.works.within.follows.clean clean_first)).sound c.in_ok-mode.mode one.0 c.args.wanted one.1 head_seen head_answer (tables_at (state g.S.Store g.P.Shelf c.wanted_head.new.connection)) c.in-Err.error (c.in-Err.ensures.decides clean)

pub wanted_head-requires : goal.wanted_head-requires
wanted_head-requires g c clean = (c.in_ok-mode.ensures.works.working clean (λ bytes. bytes)).is

pub returns-in-Ok-clause-works : goal.returns-in-Ok-clause-works
returns-in-Ok-clause-works g c = record {
  within = search rules;
  opens = search rules;
  working = λ clean. works_then (state g.S.Store g.P.Shelf c.args.connection.now) (state g.S.Store g.P.Shelf c.bucket_state.new.connection) (state g.S.Store g.P.Shelf c.wanted_head.new.connection) (c.in_ok-mode.ensures.works.working (c.in-Ok.ensures.works.within.follows.clean clean)) (c.in-Ok.ensures.works.working clean);
}

pub returns-in-Err-clause-works : goal.returns-in-Err-clause-works
returns-in-Err-clause-works g c = record {
  within = search rules;
  opens = search rules;
  working = unless_then _ _ c.in-Err.error
      (λ still clean. works_then (state g.S.Store g.P.Shelf c.args.connection.now) (state g.S.Store g.P.Shelf c.bucket_state.new.connection) (state g.S.Store g.P.Shelf c.wanted_head.new.connection) (c.in_ok-mode.ensures.works.working (c.in-Err.ensures.works.within.follows.clean clean)) (still clean)) c.in-Err.ensures.works.working;
}

pub returns-in_err-mode-clause-carries : goal.returns-in_err-mode-clause-carries
returns-in_err-mode-clause-carries g c clean =
    let p = err_from_is_err_and c.from_residual.result c.from_residual.ensures.1 in
    rw (p.1, p.2) (head_unfound (λ mode. mode) head_answer c.args.tenant.now c.args.bucket.now c.args.key.now c.args.wanted (tables_at (state g.S.Store g.P.Shelf c.args.connection.now)) (tables_at (state g.S.Store g.P.Shelf c.bucket_state.new.connection))
    c.in_err-mode.field-0.0 (c.in_err-mode.ensures.decides clean))
