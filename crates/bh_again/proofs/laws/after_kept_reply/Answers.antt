use Rattle.std.proofs.Common.{refl}
use Rattle.bh_kept.proofs.Over.{kept_over}
use Rattle.bh_again.proofs.After.{after_kept_reply}
use Rattle.bh_again.proofs.laws.after_kept_reply.Goals as goal

pub returns : goal.returns
returns g c =
    after_kept_reply g.P.Shelf (record { kept = g.met.P.Shelf.kept_stands; leaves = g.met.P.Shelf.leaves_standing }) g.G.Digester.digest_of _ refl (λ kept it is. kept_over g.P.Shelf g.G.Digester.digest_of it kept is)
