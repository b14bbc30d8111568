use Rattle.std.proofs.lemmas.Result.{on_ok_weaker}
use Rattle.sqlite.specs.Held.{state}
use Rattle.bh_base.specs.Layer.{standing}
use Rattle.bh_migration.proofs.Made.{second_made, then_rows}
use Rattle.bh_migration.proofs.making.complete_first.Goals as goal

pub make_table-requires-2 : goal.make_table-requires-2
make_table-requires-2 g c clean = let it = c.in_ok-make_table.ensures.made clean in record { inside = it.inside; schema = it.schema }

pub complete_second-requires : goal.complete_second-requires
complete_second-requires g c clean = let it = c.in_ok-make_table-2.ensures.made clean in record { inside = it.inside; schema = it.schema }

pub returns-clause-made : goal.returns-clause-made
returns-clause-made g c = on_ok_weaker c.complete_second.result (λ made clean.
    let two = c.complete_second.ensures.within.follows.clean clean in
    let both = second_made (standing (state g.S.Store c.args.connection.now)) (standing (state g.S.Store c.make_table.new.connection)) (standing (state g.S.Store c.make_table-2.new.connection))
    (c.in_ok-make_table.ensures.made (c.make_table-2.ensures.within.follows.clean two)) (c.in_ok-make_table-2.ensures.made two) in
    then_rows (made clean) both.rows) c.complete_second.ensures.made
