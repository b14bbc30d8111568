use Rattle.std.proofs.Common.{rules, ◌≡◌, None, false, Ok, sym, ap, ◌∙◌}
use Rattle.std.proofs.lemmas.Result.{err_from_is_err_and}
use Rattle.bh_base.specs.Connections.{state}
use Rattle.bh_model.specs.Operations.{Removed, delete_bucket}
use Rattle.bh_view.specs.Sound.{IsSound}
use Rattle.bh_view.specs.View.{limits_in}
use Rattle.bh_base.specs.Layer.{IsStateClean}
use Rattle.bh_storage.specs.Calls.{GivesStep}
use Rattle.bh_schema.specs.Working.{tables_at}
use Rattle.bh_objects.specs.Buckets.{emptiness, without_bucket}
use Rattle.bh_objects.proofs.Working.{still_locked, works_then, unless_then}
use Rattle.bh_objects.proofs.BucketSteps.{deletes, full_refused}
use Rattle.bh_objects.proofs.buckets.delete_bucket.Given as given
use Rattle.bh_objects.proofs.buckets.delete_bucket.Goals as goal

done : (g : given.Over) (c : goal.After-nothing_told g) → IsStateClean (state g.S.Store g.P.Shelf c.drop_bucket.new.connection)
    → GivesStep c.args.tenant.now (delete_bucket c.args.bucket.now) (Removed None false) (tables_at (state g.S.Store g.P.Shelf c.args.connection.now)) (tables_at (state g.S.Store g.P.Shelf c.drop_bucket.new.connection)) × IsSound (tables_at (state g.S.Store g.P.Shelf c.drop_bucket.new.connection))
    × (limits_in (tables_at (state g.S.Store g.P.Shelf c.drop_bucket.new.connection)) ≡ limits_in (tables_at (state g.S.Store g.P.Shelf c.args.connection.now)))
done g c clean =
    let old = state g.S.Store g.P.Shelf c.args.connection.now in
    let t = c.args.tenant.now in
    let b = c.args.bucket.now in
    let clean_middle = c.in_ok-drop_bucket.ensures.changes.within.follows.clean clean in
    let clean_first = c.in_ok-require_empty.ensures.works.within.follows.clean clean_middle in
    let clean_old = c.in_ok-bucket_state.ensures.works.within.follows.clean clean_first in
    let one = c.in_ok-bucket_state.ensures.decides clean_first in
    let two = c.in_ok-require_empty.ensures.decides clean_middle in
    let empty : emptiness t b (tables_at old) ≡ Ok tt = ap (emptiness t b) (sym one.1) ∙ two.0 in
    let is = (c.in_ok-drop_bucket.ensures.changes.holds clean).is in
    deletes (tables_at old) (tables_at (state g.S.Store g.P.Shelf c.drop_bucket.new.connection)) t b _ one.0 (c.requires.working clean_old).sound empty
    (is ∙ ap (without_bucket t b) (two.1 ∙ one.1))

pub returns-clause-works : goal.returns-clause-works
returns-clause-works g c = record {
  within = search rules;
  opens = search rules;
  working = λ clean.
      let old = state g.S.Store g.P.Shelf c.args.connection.now in
      let holds = c.in_ok-drop_bucket.ensures.changes.holds clean in
      let clean_2 = c.in_ok-drop_bucket.ensures.changes.within.follows.clean clean in
      let clean_1 = c.in_ok-require_empty.ensures.works.within.follows.clean clean_2 in
      let clean_old = c.in_ok-bucket_state.ensures.works.within.follows.clean clean_1 in
      still_locked old (state g.S.Store g.P.Shelf c.require_empty.new.connection) (state g.S.Store g.P.Shelf c.drop_bucket.new.connection) _ _ ((c.in_ok-require_empty.ensures.decides clean_2).1 ∙ (c.in_ok-bucket_state.ensures.decides clean_1).1) (c.requires.working clean_old) holds.within holds.is (done g c clean).1 (done g c clean).2;
}

pub returns-clause-carries : goal.returns-clause-carries
returns-clause-carries g c clean = rw c.nothing_told.ensures (done g c clean).0

pub returns-in_err-require_empty-clause-carries : goal.returns-in_err-require_empty-clause-carries
returns-in_err-require_empty-clause-carries g c clean =
    let p = err_from_is_err_and c.from_residual-in_err-require_empty.result c.from_residual-in_err-require_empty.ensures.1 in
    let clean_first = c.in_err-require_empty.ensures.works.within.follows.clean clean in
    let clean_old = c.in_ok-bucket_state.ensures.works.within.follows.clean clean_first in
    let one = c.in_ok-bucket_state.ensures.decides clean_first in
    rw (p.1, p.2) (full_refused (tables_at (state g.S.Store g.P.Shelf c.args.connection.now)) (tables_at (state g.S.Store g.P.Shelf c.require_empty.new.connection)) c.args.tenant.now c.args.bucket.now _ one.0 (c.requires.working clean_old).sound
    (tables_at (state g.S.Store g.P.Shelf c.bucket_state.new.connection)) (tables_at (state g.S.Store g.P.Shelf c.require_empty.new.connection)) c.in_err-require_empty.field-0.0 one.1 (c.in_err-require_empty.ensures.decides clean))

pub require_empty-requires : goal.require_empty-requires
require_empty-requires g c = record { working = λ clean. (c.in_ok-bucket_state.ensures.works.working clean (λ bytes. bytes)).is }

pub drop_bucket-requires : goal.drop_bucket-requires
drop_bucket-requires g c = record { inside = λ clean. (c.in_ok-require_empty.ensures.works.working clean (λ bytes. bytes)).is.inside }

pub returns-in_err-require_empty-clause-works : goal.returns-in_err-require_empty-clause-works
returns-in_err-require_empty-clause-works g c = record {
  within = search rules;
  opens = search rules;
  working =
      let p = err_from_is_err_and c.from_residual-in_err-require_empty.result c.from_residual-in_err-require_empty.ensures.1 in
      rw (p.1, p.2) (unless_then _ _ c.in_err-require_empty.field-0.0
      (λ still clean. works_then (state g.S.Store g.P.Shelf c.args.connection.now) (state g.S.Store g.P.Shelf c.bucket_state.new.connection) (state g.S.Store g.P.Shelf c.require_empty.new.connection) (c.in_ok-bucket_state.ensures.works.working (c.in_err-require_empty.ensures.works.within.follows.clean clean)) (still clean))
      c.in_err-require_empty.ensures.works.working);
}
