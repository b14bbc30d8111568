use Rattle.bh_base.specs.Connections.{state}
use Rattle.bh_blocks.proofs.RowCalls.{nothing_done, open_still}
use Rattle.bh_blocks.proofs.rows.read_at.Goals as goal

pub returns-in_err-room-clause-within : goal.returns-in_err-room-clause-within
returns-in_err-room-clause-within g c = nothing_done (state g.S.Store g.P.Shelf c.args.connection.now) (λ clean. (c.requires clean).settled)

pub returns-clause-opens : goal.returns-clause-opens
returns-clause-opens g c intact up = open_still g.S.Store g.P.Shelf c.args.connection.now c.read.new.self c.in_ok-read.ensures.rows up
