use Rattle.bh_schema.specs.Storage as storage
use Rattle.bh_memo.proofs.Calls.{commits, leaves, crashes, kept_err, limits_stay}
use Rattle.bh_memo.proofs.Recalling.{works_under}
use Rattle.bh_dispatch.proofs.sql_host.SqlHostStorage.commit.Goals as goal

pub commit-requires : goal.commit-requires
commit-requires g c clean = works_under c.args.self.now.memo (storage.seen g.S.Store g.P.Shelf c.args.self.now.host) (c.requires clean)

pub returns-clause-intact : goal.returns-clause-intact
returns-clause-intact g c = c.commit.ensures.intact

pub returns-clause-opened : goal.returns-clause-opened
returns-clause-opened g c = c.commit.ensures.opened

pub returns-clause-opens : goal.returns-clause-opens
returns-clause-opens g c = c.commit.ensures.opens

pub returns-clause-done : goal.returns-clause-done
returns-clause-done g c =
    let a = c.args.self.now.host in
    let b = c.commit.new.self in
    let h = c.commit.ensures in
    commits c.args.self.now.memo (storage.seen g.S.Store g.P.Shelf a) (storage.seen g.S.Store g.P.Shelf b) (storage.IsIntact g.S.Store g.P.Shelf a) (storage.IsOpen g.S.Store g.P.Shelf a) (storage.IsIntact g.S.Store g.P.Shelf b) h.intact c.requires (storage.IsOpen g.S.Store g.P.Shelf b) c.commit.result h.opens h.done

pub returns-clause-survives : goal.returns-clause-survives
returns-clause-survives g c =
    let a = c.args.self.now.host in
    let b = c.commit.new.self in
    let h = c.commit.ensures in
    leaves c.args.self.now.memo (storage.seen g.S.Store g.P.Shelf a) (storage.seen g.S.Store g.P.Shelf b) (storage.IsIntact g.S.Store g.P.Shelf a) (storage.IsOpen g.S.Store g.P.Shelf a) (storage.IsIntact g.S.Store g.P.Shelf b) h.intact c.requires (storage.IsOpen g.S.Store g.P.Shelf b) (storage.left g.S.Store g.P.Shelf b) c.commit.result h.opens h.survives

pub returns-clause-crash : goal.returns-clause-crash
returns-clause-crash g c =
    let a = c.args.self.now.host in
    let b = c.commit.new.self in
    let h = c.commit.ensures in
    crashes c.args.self.now.memo (storage.seen g.S.Store g.P.Shelf a) (storage.seen g.S.Store g.P.Shelf b) (storage.IsIntact g.S.Store g.P.Shelf a) (storage.IsOpen g.S.Store g.P.Shelf a) (storage.IsIntact g.S.Store g.P.Shelf b) h.intact c.requires (storage.left g.S.Store g.P.Shelf a) (storage.left g.S.Store g.P.Shelf b) c.commit.result h.crash

pub returns-clause-kept : goal.returns-clause-kept
returns-clause-kept g c = kept_err c.args.self.now.memo (storage.seen g.S.Store g.P.Shelf c.args.self.now.host) (storage.seen g.S.Store g.P.Shelf c.commit.new.self) (storage.IsClean g.S.Store g.P.Shelf c.commit.new.self) c.commit.result c.commit.ensures.kept

pub returns-clause-limits : goal.returns-clause-limits
returns-clause-limits g c = limits_stay c.args.self.now.memo c.args.self.now.memo (storage.seen g.S.Store g.P.Shelf c.args.self.now.host) (storage.seen g.S.Store g.P.Shelf c.commit.new.self) c.commit.ensures.limits
