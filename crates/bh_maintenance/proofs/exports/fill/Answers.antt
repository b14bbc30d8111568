use Rattle.bh_maintenance.proofs.Exporting.{not_exported}
use Rattle.bh_maintenance.proofs.Opened.{when_err}
use Rattle.bh_maintenance.proofs.exports.fill.Goals as goal

pub returns-in-Err : goal.returns-in-Err
returns-in-Err g c = not_exported g.S.Store g.P.Shelf g.T.Store c.args.tenant.now c.args.host.now c.requires c.args.host.now.connection c.in-Err.done.connection c.in-Err.done.printed (when_err _ _ c.in-Err.is c.in_ok-made.ensures)
