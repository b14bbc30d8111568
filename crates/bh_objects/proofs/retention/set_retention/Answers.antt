use Rattle.std.proofs.Common.{rules, ◌≡◌, refl}
use Rattle.std.proofs.lemmas.Result.{err_from_is_err_and}
use Rattle.bh_base.specs.Connections.{state}
use Rattle.bh_model.specs.Operations.{Done, put_retention}
use Rattle.bh_view.specs.Sound.{IsSound}
use Rattle.bh_view.specs.View.{limits_in}
use Rattle.bh_storage.specs.Calls.{GivesStep}
use Rattle.bh_base.specs.Layer.{IsStateClean}
use Rattle.bh_schema.specs.Views.{head_seen}
use Rattle.bh_schema.specs.Working.{tables_at}
use Rattle.bh_objects.proofs.Working.{still_dated, works_then, unless_then, rejected_then}
use Rattle.bh_objects.proofs.Retaining.{puts, puts_failed, puts_not_dated}
use Rattle.bh_objects.proofs.retention.set_retention.Given as given
use Rattle.bh_objects.proofs.Unfound.{dated_unfound}
use Rattle.bh_objects.proofs.retention.set_retention.Goals as goal

done : (g : given.Over) (c : goal.After-drop-head-2 g) → IsStateClean (state g.S.Store g.P.Shelf c.set_date.new.connection)
    → GivesStep c.args.tenant.now (put_retention c.args.at c.args.bucket.now c.args.key.now c.args.wanted c.args.until) Done (tables_at (state g.S.Store g.P.Shelf c.args.connection.now)) (tables_at (state g.S.Store g.P.Shelf c.set_date.new.connection)) × IsSound (tables_at (state g.S.Store g.P.Shelf c.set_date.new.connection))
    × (limits_in (tables_at (state g.S.Store g.P.Shelf c.set_date.new.connection)) ≡ limits_in (tables_at (state g.S.Store g.P.Shelf c.args.connection.now)))
    × (tables_at (state g.S.Store g.P.Shelf c.set_date.new.connection) ≡ record (tables_at (state g.S.Store g.P.Shelf c.args.connection.now)) { retains = (tables_at (state g.S.Store g.P.Shelf c.set_date.new.connection)).retains })
done g c clean =
    let first = state g.S.Store g.P.Shelf c.args.connection.now in
    let last = state g.S.Store g.P.Shelf c.dated_head.new.connection in
    let clean_third = c.in_ok-set_date.ensures.changes.within.follows.clean clean in
    let clean_last = c.in_ok-present.ensures.works.within.follows.clean clean_third in
    let clean_first = c.in_ok-head.ensures.works.within.follows.clean clean_last in
    let one = c.in_ok-bucket_state.ensures.decides clean_first in
    let two = c.in_ok-head.ensures.decides clean_last in
    let three = c.in_ok-present.ensures.decides clean_third in
    puts (tables_at first) (tables_at (state g.S.Store g.P.Shelf c.bucket_state.new.connection)) c.args.tenant.now c.args.bucket.now c.args.key.now (c.requires (c.in_ok-bucket_state.ensures.works.within.follows.clean clean_first)).sound _ one.0 c.args.wanted one.1
    (tables_at last) two.1 (head_seen c.in_ok-head.head) two.0 c.args.at c.args.until (c.in_ok-set_date.ensures.near c.args.until refl) c.in_ok-present.present three.0
    (tables_at (state g.S.Store g.P.Shelf c.present_date.new.connection)) (tables_at (state g.S.Store g.P.Shelf c.set_date.new.connection)) three.1 (c.in_ok-set_date.ensures.changes.holds clean).is

pub returns-clause-carries : goal.returns-clause-carries
returns-clause-carries g c clean = (done g c clean).0

pub returns-clause-works : goal.returns-clause-works
returns-clause-works g c = record {
  within = search rules;
  opens = search rules;
  working = λ clean.
      let clean_third = c.in_ok-set_date.ensures.changes.within.follows.clean clean in
      let clean_last = c.in_ok-present.ensures.works.within.follows.clean clean_third in
      let clean_first = c.in_ok-head.ensures.works.within.follows.clean clean_last in
      let it = done g c clean in
      still_dated (state g.S.Store g.P.Shelf c.args.connection.now) (state g.S.Store g.P.Shelf c.set_date.new.connection) _ (c.requires (c.in_ok-bucket_state.ensures.works.within.follows.clean clean_first)) (c.in_ok-set_date.ensures.changes.holds clean).within it.3 it.1 it.2;
}

pub returns-in_err-head-clause-carries : goal.returns-in_err-head-clause-carries
returns-in_err-head-clause-carries g c clean =
    let p = err_from_is_err_and c.from_residual-in_err-head.result c.from_residual-in_err-head.ensures.1 in
    let clean_first = c.in_err-head.ensures.works.within.follows.clean clean in
    let one = c.in_ok-bucket_state.ensures.decides clean_first in
    rw (p.1, p.2) (puts_failed (tables_at (state g.S.Store g.P.Shelf c.args.connection.now)) (tables_at (state g.S.Store g.P.Shelf c.bucket_state.new.connection)) c.args.tenant.now c.args.bucket.now c.args.key.now
    (c.requires (c.in_ok-bucket_state.ensures.works.within.follows.clean clean_first)).sound _ one.0 c.args.wanted one.1 head_seen (λ (_ : Unit {0}). Done) c.args.at c.args.until (tables_at (state g.S.Store g.P.Shelf c.dated_head.new.connection)) c.in_err-head.field-0.0 (c.in_err-head.ensures.decides clean))

pub returns-in_err-present-clause-carries : goal.returns-in_err-present-clause-carries
returns-in_err-present-clause-carries g c clean =
    let p = err_from_is_err_and c.from_residual-in_err-present.result c.from_residual-in_err-present.ensures.1 in
    let clean_last = c.in_err-present.ensures.works.within.follows.clean clean in
    let clean_first = c.in_ok-head.ensures.works.within.follows.clean clean_last in
    let one = c.in_ok-bucket_state.ensures.decides clean_first in
    let two = c.in_ok-head.ensures.decides clean_last in
    rw (p.1, p.2) (puts_not_dated (tables_at (state g.S.Store g.P.Shelf c.args.connection.now)) (tables_at (state g.S.Store g.P.Shelf c.bucket_state.new.connection)) c.args.tenant.now c.args.bucket.now c.args.key.now
    (c.requires (c.in_ok-bucket_state.ensures.works.within.follows.clean clean_first)).sound _ one.0 c.args.wanted one.1 (tables_at (state g.S.Store g.P.Shelf c.dated_head.new.connection)) two.1 (head_seen c.in_ok-head.head) two.0
    (λ date. date) (λ (_ : Unit {0}). Done) c.args.at c.args.until (tables_at (state g.S.Store g.P.Shelf c.present_date.new.connection)) c.in_err-present.field-0.0 (c.in_err-present.ensures.decides clean))

pub dated_head-requires : goal.dated_head-requires
dated_head-requires g c clean = (c.in_ok-bucket_state.ensures.works.working clean (λ bytes. bytes)).is

pub present_date-requires : goal.present_date-requires
present_date-requires g c = record { working = λ clean. (c.in_ok-head.ensures.works.working clean (λ bytes. bytes)).is }

pub set_date-requires : goal.set_date-requires
set_date-requires g c = record { inside = λ clean. (c.in_ok-present.ensures.works.working clean (λ bytes. bytes)).is.inside }

pub returns-in_err-head-clause-works : goal.returns-in_err-head-clause-works
returns-in_err-head-clause-works g c = record {
  within = search rules;
  opens = search rules;
  working =
      let p = err_from_is_err_and c.from_residual-in_err-head.result c.from_residual-in_err-head.ensures.1 in
      rw (p.1, p.2) (unless_then _ _ c.in_err-head.field-0.0
      (λ still clean. works_then (state g.S.Store g.P.Shelf c.args.connection.now) (state g.S.Store g.P.Shelf c.bucket_state.new.connection) (state g.S.Store g.P.Shelf c.dated_head.new.connection) (c.in_ok-bucket_state.ensures.works.working (c.in_err-head.ensures.works.within.follows.clean clean)) (still clean)) c.in_err-head.ensures.works.working);
}

pub returns-in_err-present-clause-works : goal.returns-in_err-present-clause-works
returns-in_err-present-clause-works g c = record {
  within = search rules;
  opens = search rules;
  working =
      let p = err_from_is_err_and c.from_residual-in_err-present.result c.from_residual-in_err-present.ensures.1 in
      rw (p.1, p.2) (rejected_then _ _ c.in_err-present.field-0.0
      (λ still clean.
      let clean_last = c.in_err-present.ensures.works.within.follows.clean clean in
      works_then (state g.S.Store g.P.Shelf c.args.connection.now) (state g.S.Store g.P.Shelf c.dated_head.new.connection) (state g.S.Store g.P.Shelf c.present_date.new.connection)
      (works_then (state g.S.Store g.P.Shelf c.args.connection.now) (state g.S.Store g.P.Shelf c.bucket_state.new.connection) (state g.S.Store g.P.Shelf c.dated_head.new.connection) (c.in_ok-bucket_state.ensures.works.working (c.in_ok-head.ensures.works.within.follows.clean clean_last)) (c.in_ok-head.ensures.works.working clean_last))
      (still clean)) c.in_err-present.ensures.works.working);
}

pub returns-in_err-bucket_state-clause-carries : goal.returns-in_err-bucket_state-clause-carries
returns-in_err-bucket_state-clause-carries g c clean =
    let p = err_from_is_err_and c.from_residual.result c.from_residual.ensures.1 in
    rw (p.1, p.2) (dated_unfound (λ mode. mode) (λ (_ : Unit {0}). Done) c.args.tenant.now c.args.bucket.now c.args.key.now c.args.wanted (tables_at (state g.S.Store g.P.Shelf c.args.connection.now)) (tables_at (state g.S.Store g.P.Shelf c.bucket_state.new.connection))
    c.args.at c.args.until c.in_err-bucket_state.field-0.0 (c.in_err-bucket_state.ensures.decides clean))
