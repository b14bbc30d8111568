use Rattle.std.proofs.Common.{rules, map, refl, ap, ◌∙◌}
use Rattle.std.proofs.lemmas.Result.{IfOk-at_ok}
use Rattle.bh_base.specs.Connections.{state}
use Rattle.bh_schema.specs.Rows.{listed_buckets}
use Rattle.bh_schema.specs.Views.{entry_seen}
use Rattle.bh_schema.specs.Working.{tables_at}
use Rattle.bh_schema.proofs.Storing.{on_ok}
use Rattle.bh_objects.proofs.BucketSteps.{lists}
use Rattle.bh_objects.proofs.Working.{same_tables, asked_working}
use Rattle.bh_objects.proofs.buckets.list_buckets.Goals as goal

pub returns-clause-carries : goal.returns-clause-carries
returns-clause-carries g c clean =
    let old = state g.S.Store g.P.Shelf c.args.connection.now in
    let new = state g.S.Store g.P.Shelf c.list_of.new.connection in
    let listed = (rw c.as_str.ensures.value at (IfOk-at_ok _ c.in_ok-listed.ensures.ok c.list_of.ensures.listed clean)) (listed_buckets c.args.tenant.now (tables_at old)) refl in
    lists (tables_at old) (tables_at new) c.args.tenant.now (c.requires.working (c.list_of.ensures.reads.within.follows.clean clean)).sound _
    (c.in_ok-bucket_entries.ensures ∙ ap (map entry_seen) c.deref.ensures.value ∙ listed) (same_tables old new (on_ok _ c.in_ok-listed.ensures.ok c.list_of.ensures.reads.same clean.intact))

pub returns-clause-works : goal.returns-clause-works
returns-clause-works g c = record {
  within = search rules;
  opens = search rules;
  working = asked_working (state g.S.Store g.P.Shelf c.args.connection.now) (state g.S.Store g.P.Shelf c.list_of.new.connection) c.requires.working c.list_of.ensures.reads.within (on_ok _ c.in_ok-listed.ensures.ok c.list_of.ensures.reads.same);
}
