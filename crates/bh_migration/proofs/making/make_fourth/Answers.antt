use Rattle.sqlite.specs.Held.{state}
use Rattle.bh_base.specs.Layer.{standing}
use Rattle.bh_migration.proofs.Made.{fourth_made}
use Rattle.bh_migration.proofs.making.make_fourth.Goals as goal

pub make_table-requires-2 : goal.make_table-requires-2
make_table-requires-2 g c clean = let it = c.in_ok-make_table.ensures.made clean in record { inside = it.inside; schema = it.schema }

pub make_table-requires-3 : goal.make_table-requires-3
make_table-requires-3 g c clean = let it = c.in_ok-make_table-2.ensures.made clean in record { inside = it.inside; schema = it.schema }

pub make_table-requires-4 : goal.make_table-requires-4
make_table-requires-4 g c clean = let it = c.in_ok-make_table-3.ensures.made clean in record { inside = it.inside; schema = it.schema }

pub make_table-requires-5 : goal.make_table-requires-5
make_table-requires-5 g c clean = let it = c.in_ok-make_table-4.ensures.made clean in record { inside = it.inside; schema = it.schema }

pub make_table-requires-6 : goal.make_table-requires-6
make_table-requires-6 g c clean = let it = c.in_ok-make_table-5.ensures.made clean in record { inside = it.inside; schema = it.schema }

pub returns-clause-made : goal.returns-clause-made
returns-clause-made g c clean =
    let five = c.make_table-6.ensures.within.follows.clean clean in
    let four = c.make_table-5.ensures.within.follows.clean five in
    let three = c.make_table-4.ensures.within.follows.clean four in
    let two = c.make_table-3.ensures.within.follows.clean three in
    let one = c.make_table-2.ensures.within.follows.clean two in
    fourth_made (standing (state g.S.Store c.args.connection.now)) (standing (state g.S.Store c.make_table.new.connection)) (standing (state g.S.Store c.make_table-2.new.connection)) (standing (state g.S.Store c.make_table-3.new.connection)) (standing (state g.S.Store c.make_table-4.new.connection)) (standing (state g.S.Store c.make_table-5.new.connection)) (standing (state g.S.Store c.make_table-6.new.connection))
    (c.in_ok-make_table.ensures.made one) (c.in_ok-make_table-2.ensures.made two) (c.in_ok-make_table-3.ensures.made three) (c.in_ok-make_table-4.ensures.made four) (c.in_ok-make_table-5.ensures.made five) (c.in_ok-make_table-6.ensures.made clean)
