use Rattle.std.proofs.lemmas.Result.{IfOk-weaker}
use Rattle.bh_maintenance.proofs.Saved.{one_saved, one_left_out, found_at, left_at}
use Rattle.bh_maintenance.proofs.backups.back_up_connection.Goals as goal

pub returns-in-Ok : goal.returns-in-Ok
returns-in-Ok g c =
    let packs = g.K.ClosedPacks.has c.args.closed in
    let found = found_at c.args.connection c.in_ok-opened.field-0 c.in-Ok.opened c.in-Ok.is c.in_ok-opened.ensures in
    IfOk-weaker c.back_up_host.result _ _ (λ it has. one_saved g.K.Open.Shelf _ g.K.Open.Copy.Shelf packs c.args.connection c.in-Ok.opened.connection (found.opened packs) it.printed it.files it.copy has)
    (c.back_up_host.ensures c.args.connection found)

pub returns-in-Err : goal.returns-in-Err
returns-in-Err g c =
    let it = c.without_host.ensures in
    let not_found = left_at c.args.connection c.in_ok-opened.field-0 c.in-Err.done c.without_host.result.printed c.in-Err.is it.printed c.in_ok-opened.ensures in
    one_left_out g.K.Open.Shelf _ g.K.Open.Copy.Shelf (g.K.ClosedPacks.has c.args.closed) c.args.connection c.without_host.result.printed c.in-Err.done.connection not_found c.without_host.result.files c.without_host.result.copy it.copy it.files
