use Rattle.std.proofs.Common.{sym}
use Rattle.sqlite.specs.Files.{over_files}
use Rattle.bh_maintenance.specs.Checks.{IsFoundSound}
use Rattle.bh_maintenance.proofs.Verdicts.{verdict_weaker}
use Rattle.bh_maintenance.proofs.checks.check_files.Goals as goal

pub returns : goal.returns
returns g c =
    let it = c.in_ok-done.done in
    verdict_weaker (IsFoundSound over_files g.K.Open.Shelf (g.K.ClosedPacks.has c.args.closed) c.in_ok-connection.connection it.store it.packs) _ it.printed
    (λ sound. record { old = c.in_ok-connection.connection; last = it.store; opened = c.in_ok-connection.ensures; sound = sound; closed = sym c.close.ensures }) c.in_ok-done.ensures
