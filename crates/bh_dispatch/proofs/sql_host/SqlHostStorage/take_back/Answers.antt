use Rattle.bh_schema.specs.Storage as storage
use Rattle.bh_memo.proofs.Calls.{takes_back, limits_stay}
use Rattle.bh_dispatch.proofs.sql_host.SqlHostStorage.take_back.Goals as goal

pub returns-clause-intact : goal.returns-clause-intact
returns-clause-intact g c = c.take_back.ensures.intact

pub returns-clause-opened : goal.returns-clause-opened
returns-clause-opened g c = c.take_back.ensures.opened

pub returns-clause-survives : goal.returns-clause-survives
returns-clause-survives g c = c.take_back.ensures.survives

pub returns-clause-back : goal.returns-clause-back
returns-clause-back g c clean =
    takes_back c.args.self.now.memo c.clear.new.self (storage.seen g.S.Store g.P.Shelf c.args.self.now.host) (storage.seen g.S.Store g.P.Shelf c.take_back.new.self) c.clear.ensures (c.take_back.ensures.back clean)

pub returns-clause-limits : goal.returns-clause-limits
returns-clause-limits g c = limits_stay c.args.self.now.memo c.clear.new.self (storage.seen g.S.Store g.P.Shelf c.args.self.now.host) (storage.seen g.S.Store g.P.Shelf c.take_back.new.self) c.take_back.ensures.limits
