use Rattle.bh_backup.proofs.Showing.{opens_alike}
use Rattle.bh_backup.proofs.laws.opens_alike.Goals as goal

pub returns : goal.returns
returns g c = opens_alike
