use Rattle.std.proofs.Common.{refl}
use Rattle.bh_maintenance.proofs.exports.save_moved.Goals as goal

pub returns-in-Ok : goal.returns-in-Ok
returns-in-Ok g c = (refl, (c.if-printed-ne0.false, record { kept = c.in-Ok.ensures.kept; copied = c.in-Ok.ensures.copied }))
