use Rattle.bh_types.proofs.Days.{epoch}
use Rattle.bh_types.proofs.moment.epoch.Goals as goal

pub returns : goal.returns
returns c = epoch c.date.result c.date.ensures.0 c.date.ensures.1 c.date.ensures.2
