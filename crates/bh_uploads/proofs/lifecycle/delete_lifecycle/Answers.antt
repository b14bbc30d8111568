use Rattle.std.proofs.Common.{rules, ◌≡◌, None, false, ap, ◌∙◌}
use Rattle.bh_base.specs.Connections.{state}
use Rattle.sqlite_keyed.specs.Lists.{update_where}
use Rattle.bh_model.specs.Operations.{Removed, delete_lifecycle}
use Rattle.bh_tables.specs.Typed.{Tables}
use Rattle.bh_tables.specs.Shown.{is_bucket}
use Rattle.bh_view.specs.Sound.{IsSound}
use Rattle.bh_view.specs.View.{limits_in}
use Rattle.bh_base.specs.Layer.{IsStateClean}
use Rattle.bh_storage.specs.Calls.{GivesStep}
use Rattle.bh_schema.specs.Working.{tables_at}
use Rattle.bh_schema.proofs.Storing.{on_ok}
use Rattle.bh_objects.proofs.Working.{still_buckets}
use Rattle.bh_uploads.proofs.Rules.{clears_rule}
use Rattle.bh_uploads.proofs.lifecycle.delete_lifecycle.Given as given
use Rattle.bh_uploads.proofs.lifecycle.delete_lifecycle.Goals as goal

done : (g : given.Over) (c : goal.After-nothing_told g) → IsStateClean (state g.S.Store g.P.Shelf c.clear_days.new.connection)
    → GivesStep c.args.tenant.now (delete_lifecycle c.args.bucket.now) (Removed None false) (tables_at (state g.S.Store g.P.Shelf c.args.connection.now)) (tables_at (state g.S.Store g.P.Shelf c.clear_days.new.connection)) × IsSound (tables_at (state g.S.Store g.P.Shelf c.clear_days.new.connection))
    × (limits_in (tables_at (state g.S.Store g.P.Shelf c.clear_days.new.connection)) ≡ limits_in (tables_at (state g.S.Store g.P.Shelf c.args.connection.now)))
done g c clean =
    let old = state g.S.Store g.P.Shelf c.args.connection.now in
    let t = c.args.tenant.now in
    let b = c.args.bucket.now in
    let clean_first = c.clear_days.ensures.writes.within.follows.clean clean in
    let clean_old = c.in_ok-bucket_state.ensures.works.within.follows.clean clean_first in
    let one = c.in_ok-bucket_state.ensures.decides clean_first in
    let is = rw (c.as_str.ensures.value, c.as_str-2.ensures.value) at (on_ok _ c.in_ok-or_trouble.ensures.ok c.clear_days.ensures.holds clean).is in
    clears_rule (tables_at old) (tables_at (state g.S.Store g.P.Shelf c.clear_days.new.connection)) t b _ one.0 (c.requires.working clean_old).sound
    (is ∙ ap (λ (x : Tables). record x { buckets = update_where (is_bucket t b) (λ r. record r { days = None }) x.buckets }) one.1)

pub returns-clause-works : goal.returns-clause-works
returns-clause-works g c = record {
  within = search rules;
  opens = search rules;
  working = λ clean.
      let old = state g.S.Store g.P.Shelf c.args.connection.now in
      let holds = on_ok _ c.in_ok-or_trouble.ensures.ok c.clear_days.ensures.holds clean in
      let clean_1 = c.clear_days.ensures.writes.within.follows.clean clean in
      let clean_old = c.in_ok-bucket_state.ensures.works.within.follows.clean clean_1 in
      still_buckets old (state g.S.Store g.P.Shelf c.bucket_state.new.connection) (state g.S.Store g.P.Shelf c.clear_days.new.connection) _ ((c.in_ok-bucket_state.ensures.decides clean_1).1) (c.requires.working clean_old) holds.within holds.is (done g c clean).1 (done g c clean).2;
}

pub returns-clause-carries : goal.returns-clause-carries
returns-clause-carries g c clean = rw c.nothing_told.ensures (done g c clean).0

pub clear_days-requires : goal.clear_days-requires
clear_days-requires g c = record { inside = λ clean. (c.in_ok-bucket_state.ensures.works.working clean (λ bytes. bytes)).is.inside }
