use Rattle.std.proofs.Common.{ap}
use Rattle.sqlite.specs.Held.{Held, state as database_state}
use Rattle.bh_base.specs.Connections.{backing, state}
use Rattle.bh_base.proofs.Freeing.{stays, midst_settled, opens_same}
use Rattle.bh_compaction.proofs.moving.bytes_at.Goals as goal

pub returns-in_err-room-clause-within : goal.returns-in_err-room-clause-within
returns-in_err-room-clause-within g c = let s = state g.S.Store g.P.Shelf c.args.connection.now in stays s (midst_settled s c.requires.midst)

pub returns-clause-opens : goal.returns-clause-opens
returns-clause-opens g c intact up =
    let old = c.args.connection.now in
    let new = c.read.new.self in
    opens_same (backing g.P.Shelf old.packs) (backing g.P.Shelf new.packs) (database_state g.S.Store old.database) (database_state g.S.Store new.database) (ap (λ (d : Held _). (database_state g.S.Store d).is_open) c.in_ok-read.ensures.rows) up
