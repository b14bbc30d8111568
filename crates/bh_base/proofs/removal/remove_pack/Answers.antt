use Rattle.std.proofs.Common.{inl, refl}
use Rattle.bh_base.specs.Connections.{state}
use Rattle.bh_base.proofs.Freeing.{stays, rest_settled}
use Rattle.bh_base.proofs.removal.remove_pack.Goals as goal

pub returns-in_err-pack-clause-within : goal.returns-in_err-pack-clause-within
returns-in_err-pack-clause-within g c = let s = state g.S.Store g.P.Shelf c.args.connection.now in stays s (rest_settled s c.requires.rest)

pub remove-requires-clause-outside : goal.remove-requires-clause-outside
remove-requires-clause-outside g c clean = (c.requires.rest clean).outside

pub remove-requires-clause-unnamed : goal.remove-requires-clause-unnamed
remove-requires-clause-unnamed g c clean = c.requires.unnamed clean c.args.row.now (inl refl) c.in_ok-pack.pack c.in_ok-pack.ensures.read
