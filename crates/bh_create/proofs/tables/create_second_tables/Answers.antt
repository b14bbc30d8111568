use Rattle.std.proofs.Common.{subst}
use Rattle.bh_base.specs.Connections.{state}
use Rattle.bh_tables.proofs.Creates.{first_made}
use Rattle.bh_create.specs.Creation.{IsMaking}
use Rattle.bh_create.proofs.tables.create_second_tables.Goals as goal

pub create_item-requires : goal.create_item-requires
create_item-requires g c clean =
    subst (λ schema. IsMaking schema (state g.S.Store g.P.Shelf c.create_first_tables.new.connection)) first_made (c.in_ok-create_first_tables.ensures.makes.made clean)
