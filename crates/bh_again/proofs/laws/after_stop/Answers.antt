use Rattle.bh_again.proofs.After.{after_stop}
use Rattle.bh_again.proofs.laws.after_stop.Goals as goal

pub returns : goal.returns
returns g c = after_stop g.P.Shelf (record { kept = g.met.P.Shelf.kept_stands; leaves = g.met.P.Shelf.leaves_standing }) g.G.Digester.digest_of
