use Rattle.std.proofs.Common.{rules, ◌≡◌, Some, ap, ◌∙◌}
use Rattle.bh_base.specs.Connections.{state}
use Rattle.sqlite_keyed.specs.Lists.{update_where}
use Rattle.bh_model.specs.Operations.{Done, put_lifecycle}
use Rattle.bh_tables.specs.Typed.{Tables}
use Rattle.bh_tables.specs.Shown.{is_bucket}
use Rattle.bh_view.specs.Sound.{IsSound}
use Rattle.bh_view.specs.View.{limits_in}
use Rattle.bh_base.specs.Layer.{IsStateClean}
use Rattle.bh_storage.specs.Calls.{GivesStep}
use Rattle.bh_schema.specs.Working.{tables_at}
use Rattle.bh_schema.proofs.Storing.{on_ok}
use Rattle.bh_objects.proofs.Working.{still_buckets}
use Rattle.bh_uploads.proofs.Rules.{sets_rule}
use Rattle.bh_uploads.proofs.lifecycle.set_lifecycle.Given as given
use Rattle.bh_uploads.proofs.lifecycle.set_lifecycle.Goals as goal

done : (g : given.Over) (c : goal.In_ok-or_trouble g) → IsStateClean (state g.S.Store g.P.Shelf c.set_days.new.connection)
    → GivesStep c.args.tenant.now (put_lifecycle c.args.bucket.now c.args.days) Done (tables_at (state g.S.Store g.P.Shelf c.args.connection.now)) (tables_at (state g.S.Store g.P.Shelf c.set_days.new.connection)) × IsSound (tables_at (state g.S.Store g.P.Shelf c.set_days.new.connection))
    × (limits_in (tables_at (state g.S.Store g.P.Shelf c.set_days.new.connection)) ≡ limits_in (tables_at (state g.S.Store g.P.Shelf c.args.connection.now)))
done g c clean =
    let old = state g.S.Store g.P.Shelf c.args.connection.now in
    let t = c.args.tenant.now in
    let b = c.args.bucket.now in
    let clean_first = c.set_days.ensures.writes.within.follows.clean clean in
    let clean_old = c.in_ok-bucket_state.ensures.works.within.follows.clean clean_first in
    let one = c.in_ok-bucket_state.ensures.decides clean_first in
    let is = rw (c.as_str.ensures.value, c.as_str-2.ensures.value) at (on_ok _ c.in_ok-or_trouble.ensures.ok c.set_days.ensures.holds clean).is in
    sets_rule (tables_at old) (tables_at (state g.S.Store g.P.Shelf c.set_days.new.connection)) t b _ one.0 (c.requires.working clean_old).sound c.args.days c.requires.least c.requires.most
    (is ∙ ap (λ (x : Tables). record x { buckets = update_where (is_bucket t b) (λ r. record r { days = Some c.args.days }) x.buckets }) one.1)

pub returns-clause-works : goal.returns-clause-works
returns-clause-works g c = record {
  within = search rules;
  opens = search rules;
  working = λ clean.
      let old = state g.S.Store g.P.Shelf c.args.connection.now in
      let holds = on_ok _ c.in_ok-or_trouble.ensures.ok c.set_days.ensures.holds clean in
      let clean_1 = c.set_days.ensures.writes.within.follows.clean clean in
      let clean_old = c.in_ok-bucket_state.ensures.works.within.follows.clean clean_1 in
      still_buckets old (state g.S.Store g.P.Shelf c.bucket_state.new.connection) (state g.S.Store g.P.Shelf c.set_days.new.connection) _ ((c.in_ok-bucket_state.ensures.decides clean_1).1) (c.requires.working clean_old) holds.within holds.is (done g c clean).1 (done g c clean).2;
}

pub returns-clause-carries : goal.returns-clause-carries
returns-clause-carries g c clean = (done g c clean).0

pub set_days-requires : goal.set_days-requires
set_days-requires g c = record { inside = λ clean. (c.in_ok-bucket_state.ensures.works.working clean (λ bytes. bytes)).is.inside }
