use Rattle.sqlite.specs.Held.{state}
use Rattle.bh_base.proofs.Calls.{changes_within, changes_opens}
use Rattle.bh_migration.proofs.Made.{make_changes, make_trouble, makes}
use Rattle.bh_migration.proofs.making.make_table.Goals as goal

pub returns-clause-within : goal.returns-clause-within
returns-clause-within g c =
    let old = state g.S.Store c.args.connection.now in
    let new = state g.S.Store c.execute.new.self in
    changes_within old new (λ clean. (c.requires clean).inside) c.execute.result (make_changes c.args.item c.text.ensures old new c.requires c.execute.result c.execute.ensures.runs c.execute.ensures.survives)

pub returns-clause-opens : goal.returns-clause-opens
returns-clause-opens g c =
    let old = state g.S.Store c.args.connection.now in
    let new = state g.S.Store c.execute.new.self in
    changes_opens old new (λ clean. (c.requires clean).inside) c.execute.result (make_changes c.args.item c.text.ensures old new c.requires c.execute.result c.execute.ensures.runs c.execute.ensures.survives)

pub returns-clause-made : goal.returns-clause-made
returns-clause-made g c =
    makes c.args.item c.text.ensures (state g.S.Store c.args.connection.now) (state g.S.Store c.execute.new.self) c.requires c.execute.result c.execute.ensures.runs c.execute.ensures.survives

pub returns-clause-trouble : goal.returns-clause-trouble
returns-clause-trouble g c =
    make_trouble c.args.item c.text.ensures (state g.S.Store c.args.connection.now) (state g.S.Store c.execute.new.self) c.requires c.execute.result c.execute.ensures.runs c.execute.ensures.survives
