use Rattle.bh_machine.proofs.Bounded.{steps_keep_quota}
use Rattle.bh_machine.proofs.bounds.steps_keep_quota.Goals as goal

pub returns : goal.returns
returns c = steps_keep_quota
