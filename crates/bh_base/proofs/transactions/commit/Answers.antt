use Rattle.sqlite.specs.Held.{state}
use Rattle.bh_tables.proofs.Transactions.{commit_means}
use Rattle.bh_base.proofs.TurnLemmas.{commit_inside, commit_opens, commit_commits, commit_fails, commit_leaves, turn_follows, turn_fails, stood}
use Rattle.bh_base.proofs.transactions.commit.Goals as goal

pub returns-clause-inside : goal.returns-clause-inside
returns-clause-inside g c =
    let old = state g.S.Store c.args.connection.now in
    commit_inside _ old (state g.S.Store c.execute.new.self) c.execute.result c.execute.ensures.runs c.execute.ensures.survives (commit_means old.now.schema)

pub returns-clause-opens : goal.returns-clause-opens
returns-clause-opens g c =
    let old = state g.S.Store c.args.connection.now in
    commit_opens _ old (state g.S.Store c.execute.new.self) c.execute.result c.execute.ensures.runs c.execute.ensures.survives (commit_means old.now.schema)

pub returns-clause-commits : goal.returns-clause-commits
returns-clause-commits g c =
    let old = state g.S.Store c.args.connection.now in
    commit_commits _ old (state g.S.Store c.execute.new.self) c.execute.result c.execute.ensures.runs c.execute.ensures.survives (commit_means old.now.schema)

pub returns-clause-follows : goal.returns-clause-follows
returns-clause-follows g c = turn_follows _ (state g.S.Store c.args.connection.now) (state g.S.Store c.execute.new.self) c.execute.result c.execute.ensures.runs c.execute.ensures.survives

pub returns-clause-unwinds : goal.returns-clause-unwinds
returns-clause-unwinds g c = turn_fails _ (state g.S.Store c.args.connection.now) (state g.S.Store c.execute.new.self) c.execute.result c.execute.ensures.runs c.execute.ensures.survives

pub returns-clause-survives : goal.returns-clause-survives
returns-clause-survives g c = commit_leaves _ (state g.S.Store c.args.connection.now) (state g.S.Store c.execute.new.self) c.execute.result c.execute.ensures.runs c.execute.ensures.survives

pub returns-clause-trouble : goal.returns-clause-trouble
returns-clause-trouble g c =
    let old = state g.S.Store c.args.connection.now in
    commit_fails _ old (state g.S.Store c.execute.new.self) c.execute.result c.execute.ensures.runs c.execute.ensures.survives (commit_means old.now.schema)

pub returns-clause-live : goal.returns-clause-live
returns-clause-live g c = stood (state g.S.Store c.args.connection.now) c.schema-schema.ensures.live
