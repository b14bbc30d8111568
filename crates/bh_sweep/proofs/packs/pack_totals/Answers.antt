use Rattle.std.proofs.Common.{◌≡◌, Ok, Err, Result, IfOk, OnOk}
use Rattle.bh_base.specs.Connections.{state}
use Rattle.bh_base.specs.Layer.{IsStateClean}
use Rattle.bh_schema.specs.Working.{StillWorking}
use Rattle.bh_schema.proofs.Storing.{on_ok}
use Rattle.bh_objects.proofs.Working.{asked_working}
use Rattle.bh_storage.specs.declared.error.Trouble.{Trouble}
use Rattle.bh_sweep.specs.declared.packs.PackTotals.{PackTotals}
use Rattle.sqlite.specs.State.{State}
use Rattle.bh_sweep.proofs.packs.pack_totals.Goals as goal

pub returns-clause-working : goal.returns-clause-working
returns-clause-working g c = go c.or_trouble.result c.or_trouble.ensures.ok
  where
    old : State
    old = state g.S.Store g.P.Shelf c.args.connection.now

    new : State
    new = state g.S.Store g.P.Shelf c.count_packs.new.connection

    go : (result : Result PackTotals Trouble) → IfOk result (λ x. c.count_packs.result ≡ Ok x) → OnOk result (IsStateClean new → StillWorking old new)
    go (Err e) is = tt
    go (Ok x) is = asked_working old new c.requires c.count_packs.ensures.within (on_ok _ is c.count_packs.ensures.same)
