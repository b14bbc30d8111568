use Rattle.std.proofs.Common.{refl}
use Rattle.sqlite.specs.Held.{state}
use Rattle.bh_base.specs.Connections.{backing}
use Rattle.bh_base.proofs.Lifting.{packs_within}
use Rattle.bh_blocks.proofs.Cached.{on_any}
use Rattle.bh_blocks.proofs.RowCalls.{open_still}
use Rattle.bh_blocks.proofs.rows.place_bytes.Goals as goal

pub returns-then-are_few-clause-within : goal.returns-then-are_few-clause-within
returns-then-are_few-clause-within g c =
    let a = backing g.P.Shelf c.args.connection.now.packs in
    packs_within a a (state g.S.Store c.args.connection.now.database) (λ clean. clean) (λ clean pack offset size bytes has. has) (λ clean. refl) (λ clean. (c.requires clean).by.inside)

pub returns-clause-opens : goal.returns-clause-opens
returns-clause-opens g c = on_any c.append.result _ (λ intact up. open_still g.S.Store g.P.Shelf c.args.connection.now c.append.new.self c.append.ensures.rows up)
