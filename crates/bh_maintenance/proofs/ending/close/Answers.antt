use Rattle.std.proofs.Common.{sym}
use Rattle.bh_maintenance.proofs.Endings.{closed_whole, closed_bare}
use Rattle.bh_maintenance.proofs.ending.close.Goals as goal

pub returns-in-Ok : goal.returns-in-Ok
returns-in-Ok g c of left =
    let (last, at, closed, more) = c.in-Ok.ensures.ok in
    closed_whole c.in-Whole.is left (last, at, record { quiet = closed.quiet; sound = closed.sound })

pub returns-in-Err : goal.returns-in-Err
returns-in-Err g c of left =
    let closed = c.in-Err.ensures.err.0 in
    closed_whole c.in-Whole.is left (c.in-Err.store, sym c.close.ensures, record { quiet = closed.quiet; sound = closed.sound })

pub returns-in-Bare : goal.returns-in-Bare
returns-in-Bare g c of left = (c.in-Bare.store, sym c.close-in-Bare.ensures, closed_bare c.in-Bare.is left)
