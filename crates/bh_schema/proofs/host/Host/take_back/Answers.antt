use Rattle.bh_base.specs.Connections.{state}
use Rattle.bh_schema.proofs.Storing.{both, parts, beside_limits, left_less}
use Rattle.bh_schema.proofs.Committing.{back_shows}
use Rattle.bh_schema.proofs.host.Host.take_back.Goals as goal

pub returns-clause-opened : goal.returns-clause-opened
returns-clause-opened g c intact up = (parts (c.take_back.ensures.follows.clean (both (intact, up)))).1

pub returns-clause-survives : goal.returns-clause-survives
returns-clause-survives g c intact = left_less (state g.S.Store g.P.Shelf c.args.self.now.connection) (state g.S.Store g.P.Shelf c.take_back.new.self) (c.take_back.ensures.survives intact)

pub returns-clause-back : goal.returns-clause-back
returns-clause-back g c clean = rw c.clear.ensures (back_shows _ _ (state g.S.Store g.P.Shelf c.args.self.now.connection) (state g.S.Store g.P.Shelf c.take_back.new.self) (c.take_back.ensures.back (both clean)))

pub returns-clause-limits : goal.returns-clause-limits
returns-clause-limits g c = beside_limits _ _ c.args.self.now.limits (state g.S.Store g.P.Shelf c.args.self.now.connection) (state g.S.Store g.P.Shelf c.take_back.new.self)
