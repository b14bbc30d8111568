use Rattle.std.proofs.Common.{rules, sym, ◌∙◌}
use Rattle.std.proofs.lemmas.Result.{IfOk-at_ok}
use Rattle.bh_base.specs.Connections.{state}
use Rattle.bh_schema.specs.Working.{tables_at}
use Rattle.bh_schema.proofs.Storing.{on_ok}
use Rattle.bh_objects.proofs.Working.{same_tables, asked_working}
use Rattle.bh_objects.proofs.Found.{account_read, account_numbers, no_account, no_numbers}
use Rattle.bh_objects.proofs.reads.tenant_account.Goals as goal

pub returns-in-Some-new-clause-decides : goal.returns-in-Some-new-clause-decides
returns-in-Some-new-clause-decides g c clean =
    let old = state g.S.Store g.P.Shelf c.args.connection.now in
    let new = state g.S.Store g.P.Shelf c.find_account.new.connection in
    let its = account_numbers (tables_at old) c.args.tenant.now c.in-Some.found (sym c.in-Some.is ∙ rw c.as_str.ensures.value at (IfOk-at_ok _ c.in_ok-found.ensures.ok c.find_account.ensures.found clean)) in
    (account_read (tables_at old) c.args.tenant.now c.in-Some.found.numbers c.in-Some-new.counters its.0 c.in-Some-new.ensures.1, same_tables old new (on_ok _ c.in_ok-found.ensures.ok c.find_account.ensures.reads.same clean.intact))

pub returns-in-Some-new-clause-used : goal.returns-in-Some-new-clause-used
returns-in-Some-new-clause-used g c clean =
    (account_numbers (tables_at (state g.S.Store g.P.Shelf c.args.connection.now)) c.args.tenant.now c.in-Some.found (sym c.in-Some.is ∙ rw c.as_str.ensures.value at (IfOk-at_ok _ c.in_ok-found.ensures.ok c.find_account.ensures.found clean))).1

pub returns-in-None-clause-decides : goal.returns-in-None-clause-decides
returns-in-None-clause-decides g c clean =
    let old = state g.S.Store g.P.Shelf c.args.connection.now in
    let new = state g.S.Store g.P.Shelf c.find_account.new.connection in
    (no_account (tables_at old) c.args.tenant.now (no_numbers (tables_at old) c.args.tenant.now (sym c.in-None.is ∙ rw c.as_str.ensures.value at (IfOk-at_ok _ c.in_ok-found.ensures.ok c.find_account.ensures.found clean))), same_tables old new (on_ok _ c.in_ok-found.ensures.ok c.find_account.ensures.reads.same clean.intact))

pub returns-in-Some-new-clause-works : goal.returns-in-Some-new-clause-works
returns-in-Some-new-clause-works g c = record {
  within = search rules;
  opens = search rules;
  working = asked_working (state g.S.Store g.P.Shelf c.args.connection.now) (state g.S.Store g.P.Shelf c.find_account.new.connection) c.requires c.find_account.ensures.reads.within (on_ok _ c.in_ok-found.ensures.ok c.find_account.ensures.reads.same);
}

pub returns-in-None-clause-works : goal.returns-in-None-clause-works
returns-in-None-clause-works g c = record {
  within = search rules;
  opens = search rules;
  working = asked_working (state g.S.Store g.P.Shelf c.args.connection.now) (state g.S.Store g.P.Shelf c.find_account.new.connection) c.requires c.find_account.ensures.reads.within (on_ok _ c.in_ok-found.ensures.ok c.find_account.ensures.reads.same);
}
