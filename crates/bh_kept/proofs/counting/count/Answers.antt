use Rattle.std.proofs.Common.{◌∙◌}
use Rattle.bh_base.specs.Connections.{stands}
use Rattle.bh_kept.proofs.Held.{if_some}
use Rattle.bh_kept.proofs.Looking.{back_same}
use Rattle.bh_kept.proofs.counting.count.Goals as goal

pub returns-clause-intact : goal.returns-clause-intact
returns-clause-intact g c intact = c.look-counted.ensures.within.follows.intact (c.take_back.ensures.follows.intact intact)

pub returns-clause-clean : goal.returns-clause-clean
returns-clause-clean g c clean = c.look-counted.ensures.within.follows.clean (c.take_back.ensures.follows.clean clean)

pub returns-clause-back : goal.returns-clause-back
returns-clause-back g c clean =
    let saw = c.look-counted.ensures.within in
    let back = c.take_back.ensures in
    back.back clean ∙ back_same (stands g.S.Store g.P.Shelf c.args.connection.now) (stands g.S.Store g.P.Shelf c.look-counted.new.connection) (saw.kept (back.follows.clean clean)) saw.follows.limit

pub returns-clause-survives : goal.returns-clause-survives
returns-clause-survives g c intact db may = c.look-counted.ensures.survives (c.take_back.ensures.follows.intact intact) db (c.take_back.ensures.survives intact db may)

pub returns-clause-counted : goal.returns-clause-counted
returns-clause-counted g c = if_some c.look-counted.result (λ n is clean. is (c.take_back.ensures.follows.clean clean)) c.look-counted.ensures.counted
