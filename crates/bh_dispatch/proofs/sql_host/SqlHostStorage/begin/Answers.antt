use Rattle.std.proofs.lemmas.Result.{on_ok_weaker}
use Rattle.bh_schema.specs.Storage as storage
use Rattle.bh_memo.proofs.Calls.{begins}
use Rattle.bh_memo.proofs.Recalling.{rests_under, same_now}
use Rattle.bh_dispatch.proofs.Remembering.{within}
use Rattle.bh_dispatch.proofs.sql_host.SqlHostStorage.begin.Goals as goal

pub begin-requires : goal.begin-requires
begin-requires g c clean = rests_under c.args.self.now.memo (storage.seen g.S.Store g.P.Shelf c.args.self.now.host) (c.requires clean)

pub returns-clause-within : goal.returns-clause-within
returns-clause-within g c = within g.S.Store g.P.Shelf c.args.self.now (record c.args.self.now { host = c.begin.new.self }) c.begin.ensures.within

pub returns-clause-survives : goal.returns-clause-survives
returns-clause-survives g c = c.begin.ensures.survives

pub returns-clause-opens : goal.returns-clause-opens
returns-clause-opens g c = c.begin.ensures.opens

pub returns-clause-same : goal.returns-clause-same
returns-clause-same g c =
    on_ok_weaker c.begin.result (λ same intact. same_now c.args.self.now.memo (storage.seen g.S.Store g.P.Shelf c.args.self.now.host) (storage.seen g.S.Store g.P.Shelf c.begin.new.self) (same intact)) c.begin.ensures.same

pub returns-clause-working : goal.returns-clause-working
returns-clause-working g c =
    let a = c.args.self.now.host in
    let b = c.begin.new.self in
    let h = c.begin.ensures in
    begins c.args.self.now.memo (storage.seen g.S.Store g.P.Shelf a) (storage.seen g.S.Store g.P.Shelf b) (storage.IsIntact g.S.Store g.P.Shelf a) (storage.IsOpen g.S.Store g.P.Shelf a) (storage.IsIntact g.S.Store g.P.Shelf b) h.within.intact (storage.IsOpen g.S.Store g.P.Shelf b) c.begin.result
    c.requires h.opens h.same h.working
