use Rattle.bh_again.proofs.After.{stays_sound}
use Rattle.bh_again.proofs.laws.stays_sound.Goals as goal

pub returns : goal.returns
returns g c = stays_sound g.P.Shelf g.G.Digester.digest_of
