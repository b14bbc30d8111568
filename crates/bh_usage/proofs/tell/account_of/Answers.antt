use Rattle.std.proofs.Common.{sym, ap, ◌∙◌}
use Rattle.std.proofs.lemmas.Result.{IfOk-at_ok}
use Rattle.bh_base.specs.Connections.{state}
use Rattle.bh_tables.specs.Typed.{tables_in}
use Rattle.bh_base.specs.Layer.{Standing}
use Rattle.bh_schema.specs.Working.{tables_at}
use Rattle.bh_schema.proofs.Storing.{on_ok}
use Rattle.bh_usage.proofs.Telling.{account_read, no_account}
use Rattle.bh_usage.proofs.tell.account_of.Goals as goal

pub returns-in-Some-clause-decides : goal.returns-in-Some-clause-decides
returns-in-Some-clause-decides g c clean =
    let found = rw c.as_str.ensures.value at (IfOk-at_ok _ c.in_ok-account.ensures.ok c.find_account.ensures.found clean) in
    let same = on_ok _ c.in_ok-account.ensures.ok c.find_account.ensures.reads.same clean.intact in
    ((account_read (tables_at (state g.S.Store g.P.Shelf c.args.connection.now)) c.args.tenant.now c.in-Some.account (sym c.in-Some.is ∙ found)).0, ap (λ (x : Standing). tables_in x.now) same)

pub returns-in-Some-clause-used : goal.returns-in-Some-clause-used
returns-in-Some-clause-used g c clean =
    let found = rw c.as_str.ensures.value at (IfOk-at_ok _ c.in_ok-account.ensures.ok c.find_account.ensures.found clean) in
    (account_read (tables_at (state g.S.Store g.P.Shelf c.args.connection.now)) c.args.tenant.now c.in-Some.account (sym c.in-Some.is ∙ found)).1

pub returns-in-None-clause-decides : goal.returns-in-None-clause-decides
returns-in-None-clause-decides g c clean =
    let found = rw c.as_str.ensures.value at (IfOk-at_ok _ c.in_ok-account.ensures.ok c.find_account.ensures.found clean) in
    let same = on_ok _ c.in_ok-account.ensures.ok c.find_account.ensures.reads.same clean.intact in
    (no_account (tables_at (state g.S.Store g.P.Shelf c.args.connection.now)) c.args.tenant.now (sym c.in-None.is ∙ found), ap (λ (x : Standing). tables_in x.now) same)
