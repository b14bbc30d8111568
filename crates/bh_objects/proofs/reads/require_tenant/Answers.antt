use Rattle.std.proofs.Common.{rules, sym, ◌∙◌}
use Rattle.std.proofs.lemmas.Result.{IfOk-at_ok}
use Rattle.bh_base.specs.Connections.{state}
use Rattle.bh_schema.specs.Working.{tables_at}
use Rattle.bh_schema.proofs.Storing.{on_ok}
use Rattle.bh_objects.proofs.Working.{same_tables, asked_working}
use Rattle.bh_objects.proofs.Found.{has_tenant, no_tenant}
use Rattle.bh_objects.proofs.reads.require_tenant.Goals as goal

pub returns-in-Some-clause-decides : goal.returns-in-Some-clause-decides
returns-in-Some-clause-decides g c clean =
    let old = state g.S.Store g.P.Shelf c.args.connection.now in
    let new = state g.S.Store g.P.Shelf c.find_tenant.new.connection in
    (has_tenant (tables_at old) c.args.tenant.now _ (sym c.in-Some.is ∙ rw c.as_str.ensures.value at (IfOk-at_ok _ c.in_ok-or_trouble.ensures.ok c.find_tenant.ensures.found clean)), same_tables old new (on_ok _ c.in_ok-or_trouble.ensures.ok c.find_tenant.ensures.reads.same clean.intact))

pub returns-in-None-clause-decides : goal.returns-in-None-clause-decides
returns-in-None-clause-decides g c clean =
    let old = state g.S.Store g.P.Shelf c.args.connection.now in
    let new = state g.S.Store g.P.Shelf c.find_tenant.new.connection in
    (no_tenant (tables_at old) c.args.tenant.now (sym c.in-None.is ∙ rw c.as_str.ensures.value at (IfOk-at_ok _ c.in_ok-or_trouble.ensures.ok c.find_tenant.ensures.found clean)), same_tables old new (on_ok _ c.in_ok-or_trouble.ensures.ok c.find_tenant.ensures.reads.same clean.intact))

pub returns-in-Some-clause-works : goal.returns-in-Some-clause-works
returns-in-Some-clause-works g c = record {
  within = search rules;
  opens = search rules;
  working = asked_working (state g.S.Store g.P.Shelf c.args.connection.now) (state g.S.Store g.P.Shelf c.find_tenant.new.connection) c.requires c.find_tenant.ensures.reads.within (on_ok _ c.in_ok-or_trouble.ensures.ok c.find_tenant.ensures.reads.same);
}

pub returns-in-None-clause-works : goal.returns-in-None-clause-works
returns-in-None-clause-works g c = record {
  within = search rules;
  opens = search rules;
  working = asked_working (state g.S.Store g.P.Shelf c.args.connection.now) (state g.S.Store g.P.Shelf c.find_tenant.new.connection) c.requires c.find_tenant.ensures.reads.within (on_ok _ c.in_ok-or_trouble.ensures.ok c.find_tenant.ensures.reads.same);
}
