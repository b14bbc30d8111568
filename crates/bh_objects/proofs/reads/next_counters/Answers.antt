use Rattle.std.proofs.lemmas.Result.{err_from_is_err_and}
use Rattle.bh_base.specs.Connections.{state}
use Rattle.bh_view.specs.View.{view}
use Rattle.bh_schema.specs.Working.{tables_at}
use Rattle.bh_types.specs.Counts.{Counts}
use Rattle.bh_objects.specs.declared.reads.Account.{Account}
use Rattle.bh_objects.proofs.Found.{account_counts, counts_failed}
use Rattle.bh_objects.proofs.reads.next_counters.Goals as goal

pub returns-in_err-account-clause-decides : goal.returns-in_err-account-clause-decides
returns-in_err-account-clause-decides g c clean =
    let p = err_from_is_err_and c.from_residual.result c.from_residual.ensures.1 in
    rw (p.1, p.2) (counts_failed (λ (a : Account). (a.quota, a.counters)) (λ (x : Counts). x) (view (tables_at (state g.S.Store g.P.Shelf c.args.connection.now)) c.args.tenant.now)
    (tables_at (state g.S.Store g.P.Shelf c.args.connection.now)) (tables_at (state g.S.Store g.P.Shelf c.tenant_account.new.connection)) c.in_err-account.field-0.0 (c.in_err-account.ensures.decides clean))

pub returns-clause-decides : goal.returns-clause-decides
returns-clause-decides g c clean =
    let it = c.in_ok-account.ensures.decides clean in
    (account_counts (view (tables_at (state g.S.Store g.P.Shelf c.args.connection.now)) c.args.tenant.now) (c.in_ok-account.account.quota, c.in_ok-account.account.counters) it.0, it.1)
