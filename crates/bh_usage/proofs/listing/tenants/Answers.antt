use Rattle.std.proofs.Common.{◌≡◌, Ok, Err, Result, IfOk, OnOk, Vec, Global}
use Rattle.std.proofs.lemmas.Result.{IfOk-at_ok}
use Rattle.bh_base.specs.Connections.{state}
use Rattle.sqlite.specs.State.{State}
use Rattle.bh_storage.specs.Calls.{Lists}
use Rattle.bh_storage.specs.declared.error.Trouble.{Trouble}
use Rattle.bh_storage.specs.declared.report.TenantReport.{TenantReport}
use Rattle.bh_base.specs.Layer.{IsStateClean}
use Rattle.bh_schema.specs.Working.{tables_at, StillWorking}
use Rattle.bh_schema.proofs.Storing.{on_ok}
use Rattle.bh_usage.proofs.Asked.{asked_working, same_tables}
use Rattle.bh_usage.proofs.listing.tenants.Goals as goal

pub returns-clause-lists : goal.returns-clause-lists
returns-clause-lists g c = go c.or_trouble.result c.or_trouble.ensures.ok
  where
    old : State
    old = state g.S.Store g.P.Shelf c.args.connection.now

    new : State
    new = state g.S.Store g.P.Shelf c.read_all.new.connection

    go : (result : Result (Vec TenantReport Global) Trouble) → IfOk result (λ x. c.read_all.result ≡ Ok x) → IfOk result (λ listed. IsStateClean new → Lists listed.items (tables_at old) (tables_at new))
    go (Err e) is = tt
    go (Ok x) is = λ clean. record { told = IfOk-at_ok _ is c.read_all.ensures.told clean; same = same_tables old new (on_ok _ is c.read_all.ensures.reads.same clean.intact) }

pub returns-clause-working : goal.returns-clause-working
returns-clause-working g c = go c.or_trouble.result c.or_trouble.ensures.ok
  where
    old : State
    old = state g.S.Store g.P.Shelf c.args.connection.now

    new : State
    new = state g.S.Store g.P.Shelf c.read_all.new.connection

    go : (result : Result (Vec TenantReport Global) Trouble) → IfOk result (λ x. c.read_all.result ≡ Ok x) → OnOk result (IsStateClean new → StillWorking old new)
    go (Err e) is = tt
    go (Ok x) is = asked_working old new c.read_all.ensures.reads.within c.requires (on_ok _ is c.read_all.ensures.reads.same)
