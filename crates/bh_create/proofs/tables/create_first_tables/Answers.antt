use Rattle.std.proofs.Common.{refl}
use Rattle.bh_create.proofs.tables.create_first_tables.Goals as goal

pub create_all-requires-clause-lead : goal.create_all-requires-clause-lead
create_all-requires-clause-lead g c = (refl, (refl, (refl, (refl, (refl, (refl, (refl, (refl, (refl, (refl, (refl, (refl, (refl, (refl, (refl, refl)))))))))))))))
