use Rattle.std.proofs.Common.{refl, inl}
use Rattle.sqlite.specs.Held.{state}
use Rattle.bh_tables.proofs.Transactions.{begin_means}
use Rattle.sqlite.specs.Command.TheVariants.{Begin}
use Rattle.bh_base.proofs.TurnLemmas.{begin_outside, begin_opens, begin_begins, begin_fails, begin_within, turn_leaves, settled_by}
use Rattle.bh_base.proofs.transactions.begin.Goals as goal

pub returns-clause-outside : goal.returns-clause-outside
returns-clause-outside g c =
    let old = state g.S.Store c.args.connection.now in
    begin_outside _ old (state g.S.Store c.execute.new.self) c.execute.result c.execute.ensures.runs c.execute.ensures.survives (begin_means old.now.schema)

pub returns-clause-opens : goal.returns-clause-opens
returns-clause-opens g c =
    let old = state g.S.Store c.args.connection.now in
    begin_opens _ old (state g.S.Store c.execute.new.self) c.execute.result c.execute.ensures.runs c.execute.ensures.survives (begin_means old.now.schema)

pub returns-clause-begins : goal.returns-clause-begins
returns-clause-begins g c =
    let old = state g.S.Store c.args.connection.now in
    begin_begins _ old (state g.S.Store c.execute.new.self) c.execute.result c.execute.ensures.runs c.execute.ensures.survives (begin_means old.now.schema)

pub returns-clause-within : goal.returns-clause-within
returns-clause-within g c =
    let old = state g.S.Store c.args.connection.now in
    begin_within _ old (state g.S.Store c.execute.new.self) c.execute.result c.execute.ensures.runs c.execute.ensures.survives (begin_means old.now.schema)
    (settled_by old c.is_autocommit-outside.result c.is_autocommit-outside.ensures.value c.is_autocommit-outside.ensures.settled)

pub returns-clause-survives : goal.returns-clause-survives
returns-clause-survives g c =
    let old = state g.S.Store c.args.connection.now in
    turn_leaves _ old (state g.S.Store c.execute.new.self) c.execute.result c.execute.ensures.runs c.execute.ensures.survives Begin (begin_means old.now.schema) (inl refl)

pub returns-clause-trouble : goal.returns-clause-trouble
returns-clause-trouble g c =
    let old = state g.S.Store c.args.connection.now in
    begin_fails _ old (state g.S.Store c.execute.new.self) c.execute.result c.execute.ensures.runs c.execute.ensures.survives (begin_means old.now.schema)
