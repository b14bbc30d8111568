use Rattle.std.proofs.Common.{refl}
use Rattle.bh_maintenance.proofs.imports.import_given.Goals as goal

pub returns : goal.returns
returns g c = record { new = c.import_to.new.from.connection; imports = c.in_ok-printed.ensures; parted = record { closed = c.let_go.ensures; packs = refl } }
