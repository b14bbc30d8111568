use Rattle.std.proofs.Common.{refl}
use Rattle.bh_maintenance.proofs.exports.export_from.Goals as goal

pub returns : goal.returns
returns g c = record { new = c.export_to-outcome.new.host.connection; exports = c.in_ok-printed.ensures; parted = record { closed = c.let_go.ensures; packs = refl } }
