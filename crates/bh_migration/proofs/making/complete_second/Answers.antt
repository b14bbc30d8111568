use Rattle.std.proofs.lemmas.Result.{on_ok_weaker}
use Rattle.sqlite.specs.Held.{state}
use Rattle.bh_base.specs.Layer.{standing}
use Rattle.bh_migration.proofs.Made.{third_made, then_rows}
use Rattle.bh_migration.proofs.making.complete_second.Goals as goal

pub complete_third-requires : goal.complete_third-requires
complete_third-requires g c clean = let it = c.in_ok-make_table.ensures.made clean in record { inside = it.inside; schema = it.schema }

pub returns-clause-made : goal.returns-clause-made
returns-clause-made g c = on_ok_weaker c.complete_third.result (λ made clean.
    let one = c.in_ok-make_table.ensures.made (c.complete_third.ensures.within.follows.clean clean) in
    then_rows (made clean) (third_made (standing (state g.S.Store c.args.connection.now)) (standing (state g.S.Store c.make_table.new.connection)) one).rows) c.complete_third.ensures.made
