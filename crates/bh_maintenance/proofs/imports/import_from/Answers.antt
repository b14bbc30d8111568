use Rattle.bh_maintenance.proofs.Moving.{not_imported}
use Rattle.std.proofs.lemmas.Result.{IfOk-weaker}
use Rattle.bh_maintenance.proofs.imports.import_from.Goals as goal

pub returns-then-ne : goal.returns-then-ne
returns-then-ne g c = IfOk-weaker c.fault.result _ _ (λ printed fault. not_imported c.args.clock g.S.Store g.P.Shelf g.T.Store g.Q.Shelf c.args.from.now c.args.to.now printed fault) c.fault.ensures

pub returns-then-is_beyond : goal.returns-then-is_beyond
returns-then-is_beyond g c = IfOk-weaker c.fault-then-is_beyond.result _ _ (λ printed fault. not_imported c.args.clock g.S.Store g.P.Shelf g.T.Store g.Q.Shelf c.args.from.now c.args.to.now printed fault) c.fault-then-is_beyond.ensures
