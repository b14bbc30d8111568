use Rattle.sqlite.specs.Held.{state}
use Rattle.bh_create.proofs.Building.{item_made, item_fails}
use Rattle.bh_base.specs.Connections.{backing}
use Rattle.bh_create.proofs.tables.create_item.Goals as goal

pub returns-clause-makes : goal.returns-clause-makes
returns-clause-makes g c =
    item_made c.args.item _ (backing g.P.Shelf c.args.connection.now.packs) (state g.S.Store c.args.connection.now.database) (state g.S.Store c.execute.new.self) c.requires c.execute.result c.execute.ensures.runs c.execute.ensures.survives c.text.ensures

pub returns-clause-trouble : goal.returns-clause-trouble
returns-clause-trouble g c =
    item_fails c.args.item _ (backing g.P.Shelf c.args.connection.now.packs) (state g.S.Store c.args.connection.now.database) (state g.S.Store c.execute.new.self) c.requires c.execute.result c.execute.ensures.runs c.execute.ensures.survives c.text.ensures
