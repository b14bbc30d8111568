use Rattle.std.proofs.Common.{rules, None, false, sym, subst}
use Rattle.bh_base.specs.Connections.{state}
use Rattle.bh_model.specs.Operations.{Answer, Removed, delete_object}
use Rattle.bh_types.specs.declared.wanted.Wanted.TheVariants.{Current}
use Rattle.bh_schema.specs.Working.{tables_at}
use Rattle.bh_storage.specs.Calls.{GivesStep}
use Rattle.bh_base.specs.Layer.{IsStateClean}
use Rattle.bh_objects.proofs.Working.{host_at, still_working}
use Rattle.bh_objects.proofs.Deleting.{Deletes, deletes_null}
use Rattle.bh_objects.proofs.deletes.delete_null.Given as given
use Rattle.bh_objects.proofs.deletes.delete_null.Goals as goal

done : (g : given.Over) (c : goal.After-nothing_told g) → IsStateClean (state g.S.Store g.P.Shelf c.drop_null_version.new.connection)
    → Deletes c.args.tenant.now c.args.bucket.now c.args.key.now c.args.at Current (Removed None false) (tables_at (state g.S.Store g.P.Shelf c.args.connection.now)) (tables_at (state g.S.Store g.P.Shelf c.drop_null_version.new.connection))
done g c clean =
    let old = state g.S.Store g.P.Shelf c.args.connection.now in
    let clean_old = c.in_ok-drop_null_version.ensures.changes.within.follows.clean clean in
    deletes_null (tables_at old) (tables_at (state g.S.Store g.P.Shelf c.drop_null_version.new.connection)) c.args.tenant.now c.args.bucket.now c.args.key.now c.args.at (host_at old (c.requires.working clean_old)) (c.requires.state clean_old) (c.in_ok-drop_null_version.ensures.changes.holds clean).is

pub returns-clause-works : goal.returns-clause-works
returns-clause-works g c = record {
  within = search rules;
  opens = search rules;
  working = λ clean.
      let it = done g c clean in
      still_working (state g.S.Store g.P.Shelf c.args.connection.now) (state g.S.Store g.P.Shelf c.drop_null_version.new.connection) (c.in_ok-drop_null_version.ensures.changes.holds clean).within it.0.1 it.1 it.0.2 it.2;
}

pub returns-clause-carries : goal.returns-clause-carries
returns-clause-carries g c clean =
    subst (λ (a : Answer). GivesStep c.args.tenant.now (delete_object c.args.at c.args.bucket.now c.args.key.now Current) a (tables_at (state g.S.Store g.P.Shelf c.args.connection.now)) (tables_at (state g.S.Store g.P.Shelf c.drop_null_version.new.connection)))
    (sym c.nothing_told.ensures) (done g c clean).0.0
