use Rattle.std.proofs.lemmas.Result.{IfOk-weaker}
use Rattle.bh_maintenance.proofs.Exporting.{exports_as}
use Rattle.bh_maintenance.proofs.exports.export_to.Goals as goal

pub returns : goal.returns
returns g c =
    let done = c.in_ok-done.done in
    IfOk-weaker c.save_moved.result _ _ (λ it saved. exports_as g.S.Store g.P.Shelf _ c.args.tenant.now c.args.host.now c.fill.new.host.connection done.connection done.printed it.printed saved.0 it.files it.copy c.in_ok-done.ensures saved.1) c.save_moved.ensures
