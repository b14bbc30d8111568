use Rattle.bh_again.proofs.After.{after_reply}
use Rattle.bh_again.proofs.laws.after_reply.Goals as goal

pub returns : goal.returns
returns g c = after_reply g.P.Shelf (record { kept = g.met.P.Shelf.kept_stands; leaves = g.met.P.Shelf.leaves_standing }) g.G.Digester.digest_of
