use Rattle.bh_maintenance.proofs.Exporting.{exported}
use Rattle.bh_maintenance.proofs.exports.bring_to.Goals as goal

pub move_and_tell-requires-clause-from : goal.move_and_tell-requires-clause-from
move_and_tell-requires-clause-from g c = c.requires.host.ready

pub move_and_tell-requires-clause-to : goal.move_and_tell-requires-clause-to
move_and_tell-requires-clause-to g c = c.requires.made.ready.ready

pub returns : goal.returns
returns g c =
    exported g.S.Store g.P.Shelf g.T.Store c.args.tenant.now c.args.host.now c.requires.host c.move_and_tell.new.from.connection c.args.made c.requires.made c.move_and_tell.new.to.connection
    c.in_ok-line.line c.in_ok-printed.printed c.in_ok-line.ensures c.in_ok-printed.ensures
