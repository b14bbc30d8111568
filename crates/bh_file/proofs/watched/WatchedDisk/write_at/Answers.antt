use Rattle.bh_file.proofs.Frozen.{hands_on}
use Rattle.bh_file.proofs.watched.WatchedDisk.write_at.Goals as goal

pub returns-clause-frozen : goal.returns-clause-frozen
returns-clause-frozen g c = λ frozen. let it = c.write_at.ensures.frozen frozen in (it.0, hands_on it.1)
