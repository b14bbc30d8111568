use Rattle.std.proofs.Common.{sym, subst}
use Rattle.sqlite.specs.Files.{file_state}
use Rattle.bh_maintenance.specs.Found.{IsNotFound}
use Rattle.bh_maintenance.specs.declared.printed.Printed.{Printed}
use Rattle.bh_maintenance.proofs.Opened.{when_err}
use Rattle.bh_maintenance.proofs.files.host_or_closed.Goals as goal

pub returns-in-Err : goal.returns-in-Err
returns-in-Err g c =
    let done = c.in-Err.done in
    record {
      new = done.connection;
      not_found = subst (λ (p : Printed). IsNotFound (file_state c.args.connection) (file_state done.connection) p) (sym c.leave-printed.ensures.printed) (when_err _ _ c.in-Err.is c.in_ok-host.ensures);
      closed = c.close.ensures done.connection c.leave-printed.ensures.left;
    }
