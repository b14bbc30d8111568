use Rattle.bh_storage.specs.Calls.{Sweeps}
use Rattle.bh_memo.proofs.Calls.{told_ok}
use Rattle.bh_schema.specs.Storage as storage
use Rattle.bh_dispatch.proofs.Remembering.{on_ok, ok_any, none_so, alone_is, host_works}
use Rattle.bh_dispatch.proofs.sql_host.SqlHost.sweep.Goals as goal

pub sweep-requires : goal.sweep-requires
sweep-requires g c = host_works g.S.Store g.P.Shelf g.D.Digester.digest_of c.args.self.now c.requires

pub returns-clause-goes_on : goal.returns-clause-goes_on
returns-clause-goes_on g c =
    let b = storage.seen g.S.Store g.P.Shelf c.sweep.new.host in
    on_ok g.S.Store g.P.Shelf g.D.Digester.digest_of c.args.self.now (record c.args.self.now { host = c.sweep.new.host; memo = c.clear.new.self }) c.sweep.result c.sweep.ensures.goes_on
    (ok_any c.sweep.result _ (λ clean. none_so c.clear.new.self b.now c.clear.ensures))

pub returns-clause-sweeps : goal.returns-clause-sweeps
returns-clause-sweeps g c =
    let old = c.args.self.now in
    let h = c.sweep.ensures in
    let w = h.goes_on.within in
    let a = storage.seen g.S.Store g.P.Shelf old.host in
    let b = storage.seen g.S.Store g.P.Shelf c.sweep.new.host in
    let Clean = storage.IsClean g.S.Store g.P.Shelf c.sweep.new.host in
    told_ok old.memo c.clear.new.self a b Clean (λ (clean : Clean). alone_is g.S.Store g.P.Shelf g.D.Digester.digest_of old c.requires (w.intact clean.0, w.opened clean.0 clean.1))
    (Sweeps c.args.at c.args.limit) c.sweep.result (ok_any c.sweep.result _ (λ clean. none_so c.clear.new.self b.now c.clear.ensures)) h.sweeps
