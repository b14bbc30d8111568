use Rattle.std.proofs.Common.{sym}
use Rattle.bh_maintenance.proofs.ending.let_go.Goals as goal

pub returns : goal.returns
returns g c = (c.into_store.result, sym c.close.ensures, record { quiet = c.into_store.ensures.quiet; sound = c.into_store.ensures.sound })
