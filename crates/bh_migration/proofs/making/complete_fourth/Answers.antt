use Rattle.sqlite.specs.Held.{state}
use Rattle.bh_base.specs.Layer.{standing}
use Rattle.bh_migration.proofs.Made.{fifth_made}
use Rattle.bh_migration.proofs.making.complete_fourth.Goals as goal

pub returns-clause-made : goal.returns-clause-made
returns-clause-made g c clean = fifth_made (standing (state g.S.Store c.args.connection.now)) (standing (state g.S.Store c.make_table.new.connection)) (c.in_ok-make_table.ensures.made clean)
