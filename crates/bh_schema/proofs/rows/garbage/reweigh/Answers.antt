use Rattle.bh_base.specs.Connections.{state}
use Rattle.bh_tables.specs.Typed.{tables_in}
use Rattle.bh_base.specs.Layer.{standing}
use Rattle.bh_schema.proofs.GarbageCalls.{reweighed_to}
use Rattle.bh_schema.proofs.rows.garbage.reweigh.Goals as goal

pub returns-clause-rewrites : goal.returns-clause-rewrites
returns-clause-rewrites g c clean sums by was after so =
    reweighed_to c.args.before c.args.more c.args.less c.in_ok-bytes.bytes after sums (tables_in (standing (state g.S.Store g.P.Shelf c.args.connection.now)).now) (standing (state g.S.Store g.P.Shelf c.set_garbage.new.connection))
    c.in_ok-bytes.ensures.weighed was so (c.in_ok-set_garbage.ensures.rewrites clean sums by)
