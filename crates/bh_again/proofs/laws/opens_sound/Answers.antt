use Rattle.bh_again.proofs.After.{opens_sound}
use Rattle.bh_again.proofs.laws.opens_sound.Goals as goal

pub returns : goal.returns
returns g c = opens_sound g.P.Shelf (record { kept = g.met.P.Shelf.kept_stands; leaves = g.met.P.Shelf.leaves_standing }) g.G.Digester.digest_of
