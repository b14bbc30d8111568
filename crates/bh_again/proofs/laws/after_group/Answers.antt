use Rattle.bh_again.proofs.After.{after_group}
use Rattle.bh_again.proofs.laws.after_group.Goals as goal

pub returns : goal.returns
returns g c = after_group g.P.Shelf (record { kept = g.met.P.Shelf.kept_stands; leaves = g.met.P.Shelf.leaves_standing }) g.G.Digester.digest_of
