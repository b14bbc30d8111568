use Rattle.std.proofs.Common.{rules, ◌≡◌, Ok, sym, ap, ◌∙◌}
use Rattle.std.proofs.lemmas.Result.{err_from_is_err_and}
use Rattle.bh_base.specs.Connections.{state}
use Rattle.bh_model.specs.Operations.{Done, create_bucket}
use Rattle.bh_tables.specs.Typed.{Tables}
use Rattle.bh_view.specs.Sound.{IsSound}
use Rattle.bh_view.specs.View.{view, limits_in}
use Rattle.bh_base.specs.Layer.{IsStateClean}
use Rattle.bh_storage.specs.Calls.{GivesStep}
use Rattle.bh_schema.specs.Working.{tables_at}
use Rattle.bh_objects.specs.Buckets.{with_bucket}
use Rattle.bh_objects.specs.Found.{name_free}
use Rattle.bh_objects.proofs.Working.{still_locked, works_then, unless_then}
use Rattle.bh_objects.proofs.Creating.{creates, rows_alone}
use Rattle.bh_objects.proofs.buckets.create_bucket.Given as given
use Rattle.bh_objects.proofs.buckets.create_bucket.Goals as goal

done : (g : given.Over) (c : goal.In_ok-add_bucket g) → IsStateClean (state g.S.Store g.P.Shelf c.add_bucket.new.connection)
    → GivesStep c.args.tenant.now (create_bucket c.args.at c.args.bucket.now c.args.locked) Done (tables_at (state g.S.Store g.P.Shelf c.args.connection.now)) (tables_at (state g.S.Store g.P.Shelf c.add_bucket.new.connection)) × IsSound (tables_at (state g.S.Store g.P.Shelf c.add_bucket.new.connection))
    × (limits_in (tables_at (state g.S.Store g.P.Shelf c.add_bucket.new.connection)) ≡ limits_in (tables_at (state g.S.Store g.P.Shelf c.args.connection.now)))
done g c clean =
    let old = state g.S.Store g.P.Shelf c.args.connection.now in
    let clean_middle = c.in_ok-add_bucket.ensures.changes.within.follows.clean clean in
    let clean_first = c.in_ok-require_free_name.ensures.works.within.follows.clean clean_middle in
    let clean_old = c.in_ok-require_tenant.ensures.works.within.follows.clean clean_first in
    let one = c.in_ok-require_tenant.ensures.decides clean_first in
    let two = c.in_ok-require_free_name.ensures.decides clean_middle in
    let free : name_free c.args.bucket.now (view (tables_at old) c.args.tenant.now) ≡ Ok tt = ap (λ (x : Tables). name_free c.args.bucket.now (view x c.args.tenant.now)) (sym one.1) ∙ two.0 in
    creates (tables_at old) (tables_at (state g.S.Store g.P.Shelf c.add_bucket.new.connection)) c.args.tenant.now c.args.at c.args.bucket.now c.args.locked (c.requires.working clean_old).sound (c.requires.early clean_old) c.in_ok-add_bucket.ensures.name one.0 free
    ((c.in_ok-add_bucket.ensures.changes.holds clean).is ∙ ap (with_bucket c.args.tenant.now c.args.bucket.now c.args.at c.args.locked) (two.1 ∙ one.1))

pub returns-clause-works : goal.returns-clause-works
returns-clause-works g c = record {
  within = search rules;
  opens = search rules;
  working = λ clean.
      let old = state g.S.Store g.P.Shelf c.args.connection.now in
      let middle = state g.S.Store g.P.Shelf c.require_free_name.new.connection in
      let new = state g.S.Store g.P.Shelf c.add_bucket.new.connection in
      let holds = c.in_ok-add_bucket.ensures.changes.holds clean in
      let clean_2 = c.in_ok-add_bucket.ensures.changes.within.follows.clean clean in
      let clean_1 = c.in_ok-require_free_name.ensures.works.within.follows.clean clean_2 in
      let clean_old = c.in_ok-require_tenant.ensures.works.within.follows.clean clean_1 in
      still_locked old middle new _ _ ((c.in_ok-require_free_name.ensures.decides clean_2).1 ∙ (c.in_ok-require_tenant.ensures.decides clean_1).1) (c.requires.working clean_old) holds.within
      (rows_alone c.args.tenant.now c.args.bucket.now c.args.at c.args.locked (tables_at middle) (tables_at new) holds.is) (done g c clean).1 (done g c clean).2;
}

pub returns-clause-carries : goal.returns-clause-carries
returns-clause-carries g c clean = (done g c clean).0

pub require_free_name-requires : goal.require_free_name-requires
require_free_name-requires g c clean = (c.in_ok-require_tenant.ensures.works.working clean (λ bytes. bytes)).is

pub add_bucket-requires : goal.add_bucket-requires
add_bucket-requires g c = record { inside = λ clean. (c.in_ok-require_free_name.ensures.works.working clean (λ bytes. bytes)).is.inside }

pub returns-in_err-require_free_name-clause-works : goal.returns-in_err-require_free_name-clause-works
returns-in_err-require_free_name-clause-works g c = record {
  within = search rules;
  opens = search rules;
  working =
      let p = err_from_is_err_and c.from_residual-in_err-require_free_name.result c.from_residual-in_err-require_free_name.ensures.1 in
      rw (p.1, p.2) (unless_then _ _ c.in_err-require_free_name.field-0.0
      (λ still clean. works_then (state g.S.Store g.P.Shelf c.args.connection.now) (state g.S.Store g.P.Shelf c.require_tenant.new.connection) (state g.S.Store g.P.Shelf c.require_free_name.new.connection) (c.in_ok-require_tenant.ensures.works.working (c.in_err-require_free_name.ensures.works.within.follows.clean clean)) (still clean))
      c.in_err-require_free_name.ensures.works.working);
}
