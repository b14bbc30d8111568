use Rattle.std.proofs.Common.{rules, ◌≡◌, sym, ap, ◌∙◌}
use Rattle.std.proofs.lemmas.Result.{err_from_is_err_and}
use Rattle.bh_base.specs.Connections.{state}
use Rattle.sqlite_keyed.specs.Lists.{update_where}
use Rattle.bh_types.specs.BucketStates.{state_number}
use Rattle.bh_model.specs.Operations.{Done, put_versioning}
use Rattle.bh_tables.specs.Typed.{Tables}
use Rattle.bh_tables.specs.Shown.{is_bucket}
use Rattle.bh_view.specs.Sound.{IsSound}
use Rattle.bh_view.specs.View.{limits_in}
use Rattle.bh_base.specs.Layer.{IsStateClean}
use Rattle.bh_storage.specs.Calls.{GivesStep}
use Rattle.bh_schema.specs.Working.{tables_at}
use Rattle.bh_schema.proofs.Storing.{on_ok}
use Rattle.bh_objects.specs.Buckets.{versions_kept}
use Rattle.bh_objects.proofs.Working.{still_buckets, works_then, unless_then}
use Rattle.bh_objects.proofs.BucketSteps.{sets_versioning, versioning_failed}
use Rattle.bh_objects.proofs.buckets.set_versioning.Given as given
use Rattle.bh_objects.proofs.buckets.set_versioning.Goals as goal

done : (g : given.Over) (c : goal.In_ok-or_trouble g) → IsStateClean (state g.S.Store g.P.Shelf c.set_state.new.connection)
    → GivesStep c.args.tenant.now (put_versioning c.args.bucket.now c.args.state) Done (tables_at (state g.S.Store g.P.Shelf c.args.connection.now)) (tables_at (state g.S.Store g.P.Shelf c.set_state.new.connection)) × IsSound (tables_at (state g.S.Store g.P.Shelf c.set_state.new.connection))
    × (limits_in (tables_at (state g.S.Store g.P.Shelf c.set_state.new.connection)) ≡ limits_in (tables_at (state g.S.Store g.P.Shelf c.args.connection.now)))
done g c clean =
    let old = state g.S.Store g.P.Shelf c.args.connection.now in
    let t = c.args.tenant.now in
    let b = c.args.bucket.now in
    let clean_second = c.set_state.ensures.writes.within.follows.clean clean in
    let clean_first = c.in_ok-require_kept.ensures.works.within.follows.clean clean_second in
    let clean_old = c.in_ok-bucket_state.ensures.works.within.follows.clean clean_first in
    let one = c.in_ok-bucket_state.ensures.decides clean_first in
    let two = c.in_ok-require_kept.ensures.decides clean_second in
    let is = rw (c.as_str.ensures.value, c.as_str-2.ensures.value) at (on_ok _ c.in_ok-or_trouble.ensures.ok c.set_state.ensures.holds clean).is in
    sets_versioning (tables_at old) (tables_at (state g.S.Store g.P.Shelf c.set_state.new.connection)) t b _ one.0 c.args.state (c.requires.working clean_old).sound
    (ap (versions_kept t b c.args.state) (sym one.1) ∙ two.0)
    (is ∙ ap (λ (x : Tables). record x { buckets = update_where (is_bucket t b) (λ r. record r { state = state_number c.args.state }) x.buckets }) (two.1 ∙ one.1))

pub returns-clause-works : goal.returns-clause-works
returns-clause-works g c = record {
  within = search rules;
  opens = search rules;
  working = λ clean.
      let old = state g.S.Store g.P.Shelf c.args.connection.now in
      let holds = on_ok _ c.in_ok-or_trouble.ensures.ok c.set_state.ensures.holds clean in
      let clean_2 = c.set_state.ensures.writes.within.follows.clean clean in
      let clean_1 = c.in_ok-require_kept.ensures.works.within.follows.clean clean_2 in
      let clean_old = c.in_ok-bucket_state.ensures.works.within.follows.clean clean_1 in
      still_buckets old (state g.S.Store g.P.Shelf c.require_kept.new.connection) (state g.S.Store g.P.Shelf c.set_state.new.connection) _ ((c.in_ok-require_kept.ensures.decides clean_2).1 ∙ (c.in_ok-bucket_state.ensures.decides clean_1).1) (c.requires.working clean_old) holds.within holds.is (done g c clean).1 (done g c clean).2;
}

pub returns-clause-carries : goal.returns-clause-carries
returns-clause-carries g c clean = (done g c clean).0

pub set_state-requires : goal.set_state-requires
set_state-requires g c = record { inside = λ clean. (c.in_ok-require_kept.ensures.works.working clean (λ bytes. bytes)).is.inside }

pub require_kept-requires : goal.require_kept-requires
require_kept-requires g c = record { working = λ clean. (c.in_ok-bucket_state.ensures.works.working clean (λ bytes. bytes)).is }

pub returns-in_err-require_kept-clause-works : goal.returns-in_err-require_kept-clause-works
returns-in_err-require_kept-clause-works g c = record {
  within = search rules;
  opens = search rules;
  working =
      let p = err_from_is_err_and c.from_residual-in_err-require_kept.result c.from_residual-in_err-require_kept.ensures.1 in
      rw (p.1, p.2) (unless_then _ _ c.in_err-require_kept.field-0.0
      (λ still clean. works_then (state g.S.Store g.P.Shelf c.args.connection.now) (state g.S.Store g.P.Shelf c.bucket_state.new.connection) (state g.S.Store g.P.Shelf c.require_kept.new.connection) (c.in_ok-bucket_state.ensures.works.working (c.in_err-require_kept.ensures.works.within.follows.clean clean)) (still clean))
      c.in_err-require_kept.ensures.works.working);
}

pub returns-in_err-require_kept-clause-carries : goal.returns-in_err-require_kept-clause-carries
returns-in_err-require_kept-clause-carries g c clean =
    let p = err_from_is_err_and c.from_residual-in_err-require_kept.result c.from_residual-in_err-require_kept.ensures.1 in
    let clean_first = c.in_err-require_kept.ensures.works.within.follows.clean clean in
    let one = c.in_ok-bucket_state.ensures.decides clean_first in
    rw (p.1, p.2) (versioning_failed (tables_at (state g.S.Store g.P.Shelf c.args.connection.now)) (tables_at (state g.S.Store g.P.Shelf c.require_kept.new.connection)) c.args.tenant.now c.args.bucket.now _ one.0
    (λ (_ : Unit {0}). tt) (λ (_ : Unit {0}). Done) c.args.state (tables_at (state g.S.Store g.P.Shelf c.bucket_state.new.connection)) (tables_at (state g.S.Store g.P.Shelf c.require_kept.new.connection)) c.in_err-require_kept.field-0.0 (c.requires.working (c.in_ok-bucket_state.ensures.works.within.follows.clean clean_first)).sound one.1 (c.in_err-require_kept.ensures.decides clean))
