use Rattle.std.proofs.Common.{subst}
use Rattle.bh_base.specs.Connections.{state}
use Rattle.bh_tables.proofs.Creates.{third_made}
use Rattle.bh_create.specs.Creation.{IsMaking}
use Rattle.bh_create.proofs.tables.create_fourth_tables.Goals as goal

pub create_pack_tables-requires : goal.create_pack_tables-requires
create_pack_tables-requires g c clean =
    subst (λ schema. IsMaking schema (state g.S.Store g.P.Shelf c.create_third_tables.new.connection)) third_made (c.in_ok-create_third_tables.ensures.makes.made clean)
