use Rattle.std.proofs.Common.{refl, inr}
use Rattle.sqlite.specs.Held.{state}
use Rattle.sqlite.specs.Command.TheVariants.{Rollback}
use Rattle.bh_tables.proofs.Transactions.{rollback_means}
use Rattle.bh_base.proofs.TurnLemmas.{rollback_goes, turn_follows, turn_leaves, settled_by}
use Rattle.bh_base.proofs.transactions.take_back.Goals as goal

pub returns-clause-back : goal.returns-clause-back
returns-clause-back g c =
    let old = state g.S.Store c.args.connection.now in
    rollback_goes _ old (state g.S.Store c.execute.new.self) c.execute.result c.execute.ensures.runs c.execute.ensures.survives (rollback_means old.now.schema)
    (settled_by old c.is_autocommit-outside.result c.is_autocommit-outside.ensures.value c.is_autocommit-outside.ensures.settled)

pub returns-clause-follows : goal.returns-clause-follows
returns-clause-follows g c = turn_follows _ (state g.S.Store c.args.connection.now) (state g.S.Store c.execute.new.self) c.execute.result c.execute.ensures.runs c.execute.ensures.survives

pub returns-clause-survives : goal.returns-clause-survives
returns-clause-survives g c =
    let old = state g.S.Store c.args.connection.now in
    turn_leaves _ old (state g.S.Store c.execute.new.self) c.execute.result c.execute.ensures.runs c.execute.ensures.survives Rollback (rollback_means old.now.schema) (inr refl)
