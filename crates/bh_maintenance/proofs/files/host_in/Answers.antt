use Rattle.std.proofs.lemmas.Result.{IfOk-weaker}
use Rattle.bh_maintenance.proofs.Found.{sound_opened}
use Rattle.bh_maintenance.proofs.Opened.{none_there, host_at}
use Rattle.bh_maintenance.proofs.files.host_in.Goals as goal

pub host_or_closed-requires : goal.host_or_closed-requires
host_or_closed-requires g c = sound_opened _ _ _ c.requires c.in_ok-connection-in-Ok-false.ensures

pub returns-in_ok-connection-in-Ok-false : goal.returns-in_ok-connection-in-Ok-false
returns-in_ok-connection-in-Ok-false g c =
    let start = c.in_ok-connection-in-Ok-false in
    IfOk-weaker c.host_or_closed.result _ _ (λ found is. host_at _ _ g.K.Open.Shelf (g.K.ClosedPacks.has c.args.closed) start.connection start.ensures found is) c.host_or_closed.ensures

pub returns-in_ok-without_files-in-Ok-true : goal.returns-in_ok-without_files-in-Ok-true
returns-in_ok-without_files-in-Ok-true g c =
    let it = c.in_ok-without_files-in-Ok-true.ensures in
    none_there _ _ c.in_ok-without_files-in-Ok-true.field-0.printed c.in_ok-without_files-in-Ok-true.field-0.files it.0 it.1
