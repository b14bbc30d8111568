use Rattle.std.proofs.Common.{refl}
use Rattle.bh_base.specs.Connections.{state}
use Rattle.bh_schema.proofs.Storing.{on_ok, keeps, left_less}
use Rattle.bh_schema.proofs.Committing.{begun_works, begun_shows}
use Rattle.bh_schema.proofs.host.Host.begin.Goals as goal

pub returns-in_err-or_trouble-clause-within : goal.returns-in_err-or_trouble-clause-within
returns-in_err-or_trouble-clause-within g c = keeps g.S.Store g.P.Shelf c.args.self.now _ refl c.begin.ensures.within

pub returns-in_err-or_trouble-clause-survives : goal.returns-in_err-or_trouble-clause-survives
returns-in_err-or_trouble-clause-survives g c intact = left_less (state g.S.Store g.P.Shelf c.args.self.now.connection) (state g.S.Store g.P.Shelf c.begin.new.self) (c.begin.ensures.survives intact)

pub returns-clause-within : goal.returns-clause-within
returns-clause-within g c = keeps g.S.Store g.P.Shelf c.args.self.now _ refl c.begin.ensures.within

pub returns-clause-survives : goal.returns-clause-survives
returns-clause-survives g c intact = left_less (state g.S.Store g.P.Shelf c.args.self.now.connection) (state g.S.Store g.P.Shelf c.begin.new.self) (c.begin.ensures.survives intact)

pub returns-clause-same : goal.returns-clause-same
returns-clause-same g c intact = begun_shows _ _ (state g.S.Store g.P.Shelf c.args.self.now.connection) (state g.S.Store g.P.Shelf c.begin.new.self) (on_ok _ c.in_ok-or_trouble.ensures.ok c.begin.ensures.begins intact)

pub returns-clause-working : goal.returns-clause-working
returns-clause-working g c intact =
    begun_works _ _ (state g.S.Store g.P.Shelf c.args.self.now.connection) (state g.S.Store g.P.Shelf c.begin.new.self)
    (c.requires (c.begin.ensures.within.follows.intact intact, (on_ok _ c.in_ok-or_trouble.ensures.ok c.begin.ensures.opens intact).0)) (on_ok _ c.in_ok-or_trouble.ensures.ok c.begin.ensures.begins intact)
