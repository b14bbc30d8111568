use Rattle.std.proofs.lemmas.Result.{IfOk-weaker}
use Rattle.bh_maintenance.proofs.Saved.{backed_up}
use Rattle.bh_maintenance.proofs.backups.backup_file.Goals as goal

pub returns-in_ok-connection-in-Ok-false : goal.returns-in_ok-connection-in-Ok-false
returns-in_ok-connection-in-Ok-false g c =
    let start = c.in_ok-connection-in-Ok-false in
    IfOk-weaker c.back_up_connection.result _ _ (λ it came. backed_up g.K.Open.Shelf _ g.K.Open.Copy.Shelf (g.K.ClosedPacks.has c.args.closed) start.connection it.printed _ start.ensures it.files it.copy came) c.back_up_connection.ensures
