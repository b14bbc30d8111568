use Rattle.std.proofs.Common.{refl}
use Rattle.bh_maintenance.proofs.Exporting.{ready_new}
use Rattle.bh_maintenance.proofs.exports.host_like.Goals as goal

pub returns-in-Ok : goal.returns-in-Ok
returns-in-Ok g c = rw c.into_connection.ensures (record { limits = refl; digest = refl; ready = ready_new g.T.Store _ refl c.in-Ok.ensures.made; fresh = c.in-Ok.ensures.made })
