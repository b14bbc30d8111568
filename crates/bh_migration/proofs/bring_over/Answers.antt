use Rattle.sqlite.specs.Held.{state}
use Rattle.bh_base.specs.Layer.{standing}
use Rattle.bh_migration.proofs.Stages.{left_kept, shows_same}
use Rattle.bh_migration.proofs.bring_over.Goals as goal

pub returns-in-Ok-clause-left : goal.returns-in-Ok-clause-left
returns-in-Ok-clause-left g c clean = left_kept g.S.Store g.met.S.Store.settled c.commit_change.new.connection clean.is_open

pub returns-in-Ok-clause-shows : goal.returns-in-Ok-clause-shows
returns-in-Ok-clause-shows g c clean first =
    shows_same (standing (state g.S.Store c.args.connection.now)).now (standing (state g.S.Store c.commit_change.new.connection)).now first (c.in-Ok.ensures.settles clean).changed
