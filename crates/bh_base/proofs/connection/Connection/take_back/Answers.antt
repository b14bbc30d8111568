use Rattle.sqlite.specs.Held.{state}
use Rattle.bh_base.specs.Connections.{backing}
use Rattle.bh_base.proofs.Lifting.{shown_clean, shown_back, shown_follows, shown_leaves}
use Rattle.bh_base.proofs.connection.Connection.take_back.Goals as goal

pub returns-clause-back : goal.returns-clause-back
returns-clause-back g c =
    let a = backing g.P.Shelf c.args.self.now.packs in
    let new = state g.S.Store c.take_back.new.connection in
    λ clean. shown_back a (state g.S.Store c.args.self.now.database) new (c.take_back.ensures.back (shown_clean a new clean).0)

pub returns-clause-follows : goal.returns-clause-follows
returns-clause-follows g c =
    let a = backing g.P.Shelf c.args.self.now.packs in
    shown_follows a a (state g.S.Store c.args.self.now.database) (state g.S.Store c.take_back.new.connection) (λ h. h) c.take_back.ensures.follows

pub returns-clause-survives : goal.returns-clause-survives
returns-clause-survives g c =
    let a = backing g.P.Shelf c.args.self.now.packs in
    shown_leaves a a (state g.S.Store c.args.self.now.database) (state g.S.Store c.take_back.new.connection) (λ h. h) (λ clean pack offset size bytes has. has) c.take_back.ensures.survives
