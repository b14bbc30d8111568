use Rattle.bh_maintenance.proofs.Found.{found_in}
use Rattle.bh_maintenance.proofs.Refused.{not_found}
use Rattle.bh_maintenance.proofs.hosts.found_host.Goals as goal

pub returns-in-Ok : goal.returns-in-Ok
returns-in-Ok g c =
    let it = c.in-Ok.ensures in
    found_in g.S.Store c.args.connection c.in-Ok.opened it.schema it.same it.brought it.follows it.crash it.listed (λ clean. (it.settled clean).1) it.shows it.rest it.latest it.named

pub returns-in_ok-refused-in-Err : goal.returns-in_ok-refused-in-Err
returns-in_ok-refused-in-Err g c =
    let it = c.in-Err.ensures in
    let told = c.in_ok-refused-in-Err.ensures in
    rw told.0 (not_found g.S.Store c.args.connection c.in-Err.error.connection _ _ told.1 it.refused it.without it.failed it.keeps it.quiet it.leaves)
